use Rattle.std.proofs.Common.{◌∙◌, ◌++◌, ap}
use Rattle.span_targets.proofs.targets.Targets.parse_lossy.Goals as goal
use Rattle.span_targets.specs.Text.{directives_in, named_from, wrong_in}

pub returns : goal.returns
returns c = record {
  names = c.in_ok-take_all.ensures.names ∙ ap (named_from 1 (directives_in c.args.text.now)) c.new-targets.ensures;
  wrong = c.in_ok-take_all.ensures.wrong ∙ ap (λ ws. ws ++ wrong_in c.args.text.now) c.new-wrong.ensures.items;
}
