use Rattle.std.proofs.Common.{subst, sym}
use Rattle.span_filters.specs.Filter.{Says}
use Rattle.span_boxed.proofs.FilterLemmas.{asked_of_object}
use Rattle.span_boxed.proofs.filter.BoxedFilterFilter.callsite_enabled.Goals as goal

pub dyn_callsite_enabled-requires : goal.dyn_callsite_enabled-requires
dyn_callsite_enabled-requires g c κs = asked_of_object _ _ _ _ (subst (λ z. (goal.DynFilter-dyn g z).dyn_usable z.1) (sym c.deref_box-1.ensures.1) c.requires)

pub returns : goal.returns
returns g c a h = subst (λ z. Says ((goal.DynFilter-dyn g z).dyn_answers z.1) (λ a. a.interest c.args.meta.now) c.dyn_callsite_enabled.result)
    c.deref_box-1.ensures.1 c.dyn_callsite_enabled.ensures a h.answered
