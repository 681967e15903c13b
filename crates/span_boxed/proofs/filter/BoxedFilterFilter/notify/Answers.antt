use Rattle.std.proofs.Common.{refl, rules, subst, sym, ap, ◌∙◌}
use Rattle.span_core.specs.declared.span.Lane.{Lane}
use Rattle.span_boxed.specs.Filter.{StepsInside}
use Rattle.span_boxed.proofs.FilterLemmas.{asked_of_object, boxed_lawfully, carried_over}
use Rattle.span_boxed.proofs.filter.BoxedFilterFilter.notify.Goals as goal
use Rattle.span_registry.proofs.Unrefused.{unrefused_unless}

pub dyn_notify-requires : goal.dyn_notify-requires
dyn_notify-requires g c κs =
    let usable = subst (λ z. (goal.DynFilter-dyn g z).dyn_usable z.1) (sym c.deref_box_mut-1.ensures.value.1) c.requires.usable in
    asked_of_object _ _ _ _ (
      usable,
      (
        c.requires.kind,
        unrefused_unless _ _ _ (c.over.ensures.lent.refused ∙ c.take_root-root.ensures.rest.loan.refused)
            c.requires.refusals,
      ),
    )

pub returns-clause-hook : goal.returns-clause-hook
returns-clause-hook g c =
    let d = goal.DynFilter-dyn g in
    let lawfully =
    boxed_lawfully (λ i x. record c.args.self.now { object = record c.args.self.now.object { vtable = i; value = x } })
    (λ f. (d (f.object.vtable, f.object.value)).dyn_answers f.object.value)
    (StepsInside (λ f. (d (f.object.vtable, f.object.value)).dyn_hooked))
    (λ f. (d (f.object.vtable, f.object.value)).dyn_acts f.object.value) _ _ c.deref_box_mut-1.ensures.value.1 _ _ _ _ _ _ (_, refl, c.dyn_notify.ensures.1.0)
    c.dyn_notify.ensures.1.1.0 in
    carried_over lawfully
    (ap (λ (l : Lane). l.0) (c.over.ensures.lent.lane ∙ c.take_root-root.ensures.rest.loan.lane))
    (search (rules, c.over.ensures, c.take_root-root.ensures))
    (search (rules, c.root-1, c.over.ensures, c.take_root-root.ensures))
    (search (rules, c.root-2-1, c.put_root.ensures, g.met.S.LookupSpan.registry_with))

pub returns-clause-written : goal.returns-clause-written
returns-clause-written g c = search (rules, c.root-1, c.root-2-1, c.over.ensures, c.put_root.ensures, c.take_root-root.ensures, c.dyn_notify.ensures)
