use Rattle.std.proofs.Common.{subst}
use Rattle.span_layers.proofs.optional.OptionLayer.register_callsite.Goals as goal
use Rattle.span_layers.specs.Optional.{OptionForm}

pub returns-in-Some : goal.returns-in-Some
returns-in-Some g c filters f h = c.register_callsite.ensures filters f (subst (λ x. OptionForm g.L.Layer.has_form x f) c.in-Some.is h)
