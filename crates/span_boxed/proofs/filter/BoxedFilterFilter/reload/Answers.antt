use Rattle.std.proofs.Common.{refl, rules, subst, sym}
use Rattle.span_boxed.specs.Filter.{ReloadsInside}
use Rattle.span_filters.specs.Filter.{Says}
use Rattle.span_boxed.proofs.FilterLemmas.{asked_of_object, boxed_level, boxed_same}
use Rattle.span_boxed.proofs.filter.BoxedFilterFilter.reload.Goals as goal

pub dyn_reload-requires : goal.dyn_reload-requires
dyn_reload-requires g c κs =
    asked_of_object _ _ _ _ (subst (λ z. (goal.DynFilter-dyn g z).dyn_usable z.1) (sym c.deref_box_mut-1.ensures.value.1) c.requires)

pub returns-clause-taken : goal.returns-clause-taken
returns-clause-taken g c a h = subst (λ z. Says ((goal.DynFilter-dyn g z).dyn_answers z.1) (λ a. a.takes c.args.setting) c.dyn_reload.result)
    c.deref_box_mut-1.ensures.value.1 c.dyn_reload.ensures.1.0 a h.answered

pub returns-clause-reloaded : goal.returns-clause-reloaded
returns-clause-reloaded g c =
    let d = goal.DynFilter-dyn g in
    let lawfully =
    boxed_level (λ i x. record c.args.self.now { object = record c.args.self.now.object { vtable = i; value = x } })
    (λ f. (d (f.object.vtable, f.object.value)).dyn_answers f.object.value)
    (ReloadsInside (λ f. (d (f.object.vtable, f.object.value)).dyn_reloaded))
    (λ f. (d (f.object.vtable, f.object.value)).dyn_acts f.object.value) _ _ c.deref_box_mut-1.ensures.value.1 _ _ (_, refl, c.dyn_reload.ensures.1.1.0)
    c.dyn_reload.ensures.1.1.1.0 in
    search (rules, lawfully)

pub returns-clause-unchanged : goal.returns-clause-unchanged
returns-clause-unchanged g c e =
    boxed_same (λ i x. record c.args.self.now { object = record c.args.self.now.object { vtable = i; value = x } })
    _ _ c.deref_box_mut-1.ensures.value.1 _ (c.dyn_reload.ensures.1.1.1.1 e)
