use Rattle.std.proofs.Common.{refl, subst, sym}
use Rattle.span_boxed.specs.Boxed.{ChangesInside, RegistersLawfully}
use Rattle.span_boxed.proofs.BoxLemmas.{asked_of_object, in_its_box}
use Rattle.span_boxed.proofs.boxed.BoxedLayerLayer.on_register_dispatch.Goals as goal

pub dyn_on_register_dispatch-requires : goal.dyn_on_register_dispatch-requires
dyn_on_register_dispatch-requires g c κs =
    asked_of_object _ _ _ _ (subst (λ z. (goal.DynLayer-dyn g z).dyn_usable z.1) (sym c.deref_box_mut-1.ensures.value.1) c.requires)

pub returns-clause-registered : goal.returns-clause-registered
returns-clause-registered g c =
    let d = goal.DynLayer-dyn g in
    let registers = c.dyn_on_register_dispatch.ensures.1 in
    in_its_box (λ i x. record c.args.self.now { object = record c.args.self.now.object { vtable = i; value = x } })
    (RegistersLawfully (λ b. (d (b.object.vtable, b.object.value)).dyn_form b.object.value)
    (ChangesInside (λ b. (d (b.object.vtable, b.object.value)).dyn_registered)) (λ b. (d (b.object.vtable, b.object.value)).dyn_acts_at b.object.value)) _
    _ c.deref_box_mut-1.ensures.value.1 _
    (record { taken = (_, refl, registers.taken); follows = registers.follows; acts_still = registers.acts_still })
