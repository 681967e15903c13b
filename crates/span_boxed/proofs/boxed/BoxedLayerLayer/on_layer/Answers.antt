use Rattle.std.proofs.Common.{refl, subst, sym}
use Rattle.span_boxed.specs.Boxed.{ChangesInside}
use Rattle.span_boxed.proofs.BoxLemmas.{asked_of_object, in_its_box, takes_numbers}
use Rattle.span_boxed.proofs.boxed.BoxedLayerLayer.on_layer.Goals as goal

pub dyn_on_layer-requires : goal.dyn_on_layer-requires
dyn_on_layer-requires g c κs =
    asked_of_object _ _ _ _ (subst (λ z. (goal.DynLayer-dyn g z).dyn_usable z.1) (sym c.deref_box_mut-1.ensures.value.1) c.requires.layer)

pub returns-clause-attached : goal.returns-clause-attached
returns-clause-attached g c =
    let d = goal.DynLayer-dyn g in
    in_its_box (λ i x. record c.args.self.now { object = record c.args.self.now.object { vtable = i; value = x } })
    (ChangesInside (λ b. (d (b.object.vtable, b.object.value)).dyn_attached)) _ _
    c.deref_box_mut-1.ensures.value.1 _ (_, refl, c.dyn_on_layer.ensures.1.0)

pub returns-clause-numbers : goal.returns-clause-numbers
returns-clause-numbers g c =
    let d = goal.DynLayer-dyn g in
    let taken = c.dyn_on_layer.ensures.1.1 in
    takes_numbers g.S.LookupSpan.registry g.S.LookupSpan.with_registry g.met.S.LookupSpan.registry_with
    (λ i x. record c.args.self.now { object = record c.args.self.now.object { vtable = i; value = x } })
    (λ b. (d (b.object.vtable, b.object.value)).dyn_form b.object.value) _
    _ c.deref_box_mut-1.ensures.value.1 _ c.args.subscriber.now _ c.dyn_on_layer.new.root c.root_mut.ensures.value
    (record { alone = taken.alone; form = taken.form; next = taken.next })
