use Rattle.std.proofs.Common.{subst}
use Rattle.span_registry.specs.Form.{is_absent}
use Rattle.span_registry.specs.Question.{ShowsBy}
use Rattle.span_boxed.proofs.boxed.BoxedLayerLayer.is_absent.Goals as goal

pub returns : goal.returns
returns g c = subst (λ z. ShowsBy ((goal.DynLayer-dyn g z).dyn_form z.1) is_absent c.dyn_is_absent.result) c.deref_box-1.ensures.1 c.dyn_is_absent.ensures
