use Rattle.std.proofs.Common.{subst, sym}
use Rattle.span_layers.proofs.boxed.BoxLayer.register_callsite.Goals as goal

pub returns : goal.returns
returns g c filters f h = c.register_callsite.ensures filters f (subst (λ x. g.L.Layer.has_form x f) (sym c.deref.ensures) h)
