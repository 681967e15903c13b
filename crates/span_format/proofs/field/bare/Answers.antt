use Rattle.std.proofs.Common.{ℕ, List, ap, ◌∙◌}
use Rattle.std.proofs.lemmas.Str.Pattern.{strip_prefix_char}
use Rattle.std.specs.Borrow.{Bor}
use Rattle.span_format.proofs.Leading.{bared}
use Rattle.span_format.proofs.field.bare.Goals as goal

pub returns : goal.returns
returns c =
    ap (λ (b : Bor (List ℕ)). b.now) c.unwrap_or.ensures
    ∙ bared c.args.lead c.args.text c.strip_prefix.result
    (strip_prefix_char c.args.lead c.args.text.now c.strip_prefix.result c.strip_prefix.ensures.cases c.requires)
