use Rattle.std.proofs.Common.{refl, rules, subst, sym, ◌∙◌}
use Rattle.span_boxed.specs.Boxed.{HearsInside, StepsInside, StepsLawfully}
use Rattle.span_boxed.proofs.BoxLemmas.{asked_of_object, notified_over_root}
use Rattle.span_boxed.proofs.boxed.BoxedLayerLayer.notify.Goals as goal
use Rattle.span_registry.proofs.Unrefused.{unrefused_unless}

pub dyn_notify-requires : goal.dyn_notify-requires
dyn_notify-requires g c κs =
    let usable = subst (λ z. (goal.DynLayer-dyn g z).dyn_usable z.1) (sym c.deref_box_mut-1.ensures.value.1) c.requires.usable.0 in
    asked_of_object _ _ _ _ (usable, unrefused_unless _ _ _ (c.over.ensures.lent.refused ∙ c.take_root-root.ensures.rest.loan.refused) c.requires.refusals)

pub returns-clause-hook : goal.returns-clause-hook
returns-clause-hook g c =
    let d = goal.DynLayer-dyn g in
    notified_over_root g.S.LookupSpan.registry g.S.LookupSpan.with_registry g.met.S.LookupSpan.registry_with
    (λ i x. record c.args.self.now { object = record c.args.self.now.object { vtable = i; value = x } })
    (λ b. (d (b.object.vtable, b.object.value)).dyn_form b.object.value) _ _ c.deref_box_mut-1.ensures.value.1 _
    (StepsLawfully (λ b. (d (b.object.vtable, b.object.value)).dyn_form b.object.value) (StepsInside (λ b. (d (b.object.vtable, b.object.value)).dyn_stepped))
    (HearsInside (λ b. (d (b.object.vtable, b.object.value)).dyn_hears)) (λ b. (d (b.object.vtable, b.object.value)).dyn_acts_at b.object.value)) _
    c.args.ctx.now c.take_root-root.new.self c.put_root.new.self _ _ _ c.over.result c.dyn_notify.new.ctx
    c.take_root-root.ensures.root c.take_root-root.ensures.rest c.over.ensures.lent (search (rules)) c.put_root.ensures
    (λ f h. let s = c.dyn_notify.ensures.1.1 f h in record {
      taken = (_, refl, s.taken);
      follows = s.follows;
      heard = λ place k l. (_, refl, s.heard place k l);
      acts_on = s.acts_on;
      alone = s.alone;
      kind = s.kind;
    })

pub returns-clause-rest : goal.returns-clause-rest
returns-clause-rest g c = search (rules, c.root-1, c.root-2-1, c.over.ensures, c.put_root.ensures, c.take_root-root.ensures, c.dyn_notify.ensures)

pub returns-clause-alone : goal.returns-clause-alone
returns-clause-alone g c = search (rules, c.root-1, c.root-2-1, c.over.ensures, c.put_root.ensures, c.take_root-root.ensures, c.dyn_notify.ensures)
