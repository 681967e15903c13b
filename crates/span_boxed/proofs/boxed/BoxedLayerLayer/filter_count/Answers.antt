use Rattle.std.proofs.Common.{subst}
use Rattle.std.specs.Prelude.{min}
use Rattle.span_layers.specs.Number.{filters_in}
use Rattle.span_registry.specs.Question.{ShowsBy}
use Rattle.std.below.core.specs.declared.int.u32.TheConstants.{MAX}
use Rattle.span_boxed.proofs.boxed.BoxedLayerLayer.filter_count.Goals as goal

pub returns : goal.returns
returns g c = subst (λ z. ShowsBy ((goal.DynLayer-dyn g z).dyn_form z.1) (λ f. min (filters_in f) MAX) c.dyn_filter_count.result)
    c.deref_box-1.ensures.1 c.dyn_filter_count.ensures
