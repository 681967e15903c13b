use Rattle.std.proofs.Common.{ap, refl, subst, sym}
use Rattle.span_boxed.specs.Boxed.{HearsInside, ReloadsInside, ReloadsLawfully}
use Rattle.span_boxed.proofs.BoxLemmas.{asked_of_object, boxed_same, in_its_box}
use Rattle.span_registry.specs.Reload.{takes_setting}
use Rattle.span_registry.specs.Question.{ShowsBy}
use Rattle.span_boxed.proofs.boxed.BoxedLayerLayer.reload.Goals as goal

pub dyn_reload-requires : goal.dyn_reload-requires
dyn_reload-requires g c κs = asked_of_object _ _ _ _ (subst (λ z. (goal.DynLayer-dyn g z).dyn_usable z.1) (sym c.deref_box_mut-1.ensures.value.1) c.requires)

pub returns-clause-taken : goal.returns-clause-taken
returns-clause-taken g c = subst (λ z. ShowsBy ((goal.DynLayer-dyn g z).dyn_form z.1) (λ f. takes_setting f c.args.number c.args.setting) c.dyn_reload.result)
    c.deref_box_mut-1.ensures.value.1 c.dyn_reload.ensures.1.0

pub returns-clause-reloaded : goal.returns-clause-reloaded
returns-clause-reloaded g c =
    let d = goal.DynLayer-dyn g in
    let levels = c.dyn_reload.ensures.1.1.0 in
    in_its_box (λ i x. record c.args.self.now { object = record c.args.self.now.object { vtable = i; value = x } })
    (λ a b. ReloadsLawfully (λ b. (d (b.object.vtable, b.object.value)).dyn_form b.object.value)
    (ReloadsInside (λ b. (d (b.object.vtable, b.object.value)).dyn_reloaded)) (HearsInside (λ b. (d (b.object.vtable, b.object.value)).dyn_hears))
    (λ b. (d (b.object.vtable, b.object.value)).dyn_acts_at b.object.value) a c.args.number c.args.setting b) _ _ c.deref_box_mut-1.ensures.value.1 _
    (record {
      taken = (_, refl, levels.taken);
      follows = levels.follows;
      heard = λ place. (_, refl, levels.heard place);
      acts_on = λ place cs a. let k = levels.acts_on place cs a in record { acted = k.acted; plain = k.plain; now = k.now };
      leaf = λ f h l. ap (λ v. record c.args.self.now { object = record c.args.self.now.object { vtable = _; value = v } }) (levels.leaf f h l);
    })

pub returns-clause-unchanged : goal.returns-clause-unchanged
returns-clause-unchanged g c e =
    boxed_same (λ i x. record c.args.self.now { object = record c.args.self.now.object { vtable = i; value = x } })
    _ _ c.deref_box_mut-1.ensures.value.1 _ (c.dyn_reload.ensures.1.1.1 e)
