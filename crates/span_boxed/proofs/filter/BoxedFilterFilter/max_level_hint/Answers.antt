use Rattle.std.proofs.Common.{subst, sym}
use Rattle.span_filters.specs.Filter.{Says}
use Rattle.span_boxed.proofs.FilterLemmas.{asked_of_object}
use Rattle.span_boxed.proofs.filter.BoxedFilterFilter.max_level_hint.Goals as goal

pub dyn_max_level_hint-requires : goal.dyn_max_level_hint-requires
dyn_max_level_hint-requires g c κs = asked_of_object _ _ _ _ (subst (λ z. (goal.DynFilter-dyn g z).dyn_usable z.1) (sym c.deref_box-1.ensures.1) c.requires)

pub returns : goal.returns
returns g c a h = subst (λ z. Says ((goal.DynFilter-dyn g z).dyn_answers z.1) (λ a. a.hint) c.dyn_max_level_hint.result)
    c.deref_box-1.ensures.1 c.dyn_max_level_hint.ensures a h.answered
