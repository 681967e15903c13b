use Rattle.std.proofs.Common.{ap, ◌∙◌}
use Rattle.std.specs.Box.{with_value}
use Rattle.span_layers.proofs.boxed.BoxLayer.reload.Goals as goal

pub returns-clause-unchanged : goal.returns-clause-unchanged
returns-clause-unchanged g c e = ap (with_value c.args.self.now) (c.reload.ensures.unchanged e ∙ c.deref_mut.ensures.value)
