use Rattle.std.proofs.Common.{subst, sym}
use Rattle.span_boxed.proofs.BoxLemmas.{asked_of_object}
use Rattle.span_registry.specs.Question.{ShowsBy, hint_of}
use Rattle.span_boxed.proofs.boxed.BoxedLayerLayer.max_level_hint.Goals as goal

pub dyn_max_level_hint-requires : goal.dyn_max_level_hint-requires
dyn_max_level_hint-requires g c κs = asked_of_object _ _ _ _ (subst (λ z. (goal.DynLayer-dyn g z).dyn_usable z.1) (sym c.deref_box-1.ensures.1) c.requires)

pub returns : goal.returns
returns g c =
    subst (λ z. ShowsBy ((goal.DynLayer-dyn g z).dyn_form z.1) hint_of c.dyn_max_level_hint.result) c.deref_box-1.ensures.1 c.dyn_max_level_hint.ensures
