use Rattle.std.proofs.Common.{subst}
use Rattle.span_registry.specs.Form.{is_marked}
use Rattle.span_registry.specs.Question.{ShowsBy}
use Rattle.span_boxed.proofs.boxed.BoxedLayerLayer.is_filtered.Goals as goal

pub returns : goal.returns
returns g c = subst (λ z. ShowsBy ((goal.DynLayer-dyn g z).dyn_form z.1) is_marked c.dyn_is_filtered.result) c.deref_box-1.ensures.1 c.dyn_is_filtered.ensures
