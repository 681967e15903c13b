-- What a caller's proof may need of a boxed layer: a box adds nothing to the layer in it.
use Rattle.std.specs.Prelude.{◌≡◌, ℕ, [], refl}
use Rattle.std.proofs.Common.{Global, subst, sym}
use Rattle.std.proofs.lemmas.List.{append-nil}
use Rattle.std.specs.declared.dyn_box.DynBox.{DynBox}
use denote.Param.Table.{Entry, Table}
use Rattle.span_boxed.proofs.BoxLemmas.{acts_plainly}
use Rattle.span_boxed.specs.Boxed.{ActsPlainlyAt, ChangesInside, Further, HearsInside, HearsLawfully, Reloaded, ReloadsInside, Nothing, StepsInside}
use Rattle.span_boxed.specs.declared.boxed.BoxedLayer.{BoxedLayer}
use Rattle.span_core.specs.Filters.{FilterSet}
use Rattle.span_boxed.proofs.FilterCallerLemmas.{IsBoxOf, in_a_box}
use Rattle.span_layers.specs.Acts.{PathLaws}
use Rattle.span_layers.specs.Layer.{LayerSteps}
use Rattle.span_store.specs.Store.{RegistryState}
use Rattle.span_registry.specs.Behaviour.{Notice}
use Rattle.span_registry.specs.Conducts.{ActsAt, Conducts}
use Rattle.span_registry.specs.Form.{Form}
use Rattle.span_registry.specs.Reload.{ReloadSteps}
use Rattle.span_registry.specs.Path.{mask_at}
use Rattle.span_registry.specs.Position.{Heard, HearLaws, HearSteps, Position, heard_by, told_in}
use Rattle.span_registry.specs.Plan.{Plan}

-- T and at are `own-1` and `at-1-1` of the caller's `OwnLists`: the types that it puts into boxes, and the one in this box
module _ {G : Type 0 → Type 1} {C : Type 0} (T : Table G C) (at : T.I) where
  -- a boxed layer over these types
  abbrev pub Boxed : Type 0
  Boxed = BoxedLayer T.I (λ i. (T.entry i).0.Denot)

  -- the box was made of this layer
  abbrev pub Holds : Boxed → (T.entry at).0.Denot → Type 0
  Holds b x = IsBoxOf T at b.object.vtable b.object.value x

  -- a boxed layer has the form of the layer
  pub form_in_a_box : (form : (j : Entry G C) → j.0.Denot → Form → Type 0) (b : Boxed) (x : (T.entry at).0.Denot) (f : Form)
      → Holds b x → form (T.entry at) x f → form (T.entry b.object.vtable) b.object.value f
  form_in_a_box form b x f made h = in_a_box T at (λ j z. form j z f) made h

  -- and its paths act as the layer's do
  pub acts_in_a_box : (form : (j : Entry G C) → j.0.Denot → Form → Type 0) (acts_at : (j : Entry G C) → ActsAt j.0.Denot)
      {steps : LayerSteps (T.entry at).0.Denot} {registered : (T.entry at).0.Denot → (T.entry at).0.Denot → Type 0}
      → PathLaws (form (T.entry at)) steps registered (acts_at (T.entry at))
      → (b : Boxed) (x : (T.entry at).0.Denot) (position : Position) (cs : Conducts) → Holds b x → acts_at (T.entry at) x position cs
      → ActsPlainlyAt (form (T.entry b.object.vtable)) (acts_at (T.entry b.object.vtable)) b.object.value position cs
  acts_in_a_box form acts_at paths b x position cs made h =
      in_a_box T at (λ j z. ActsPlainlyAt (form j) (acts_at j) z position cs) made (acts_plainly paths x position cs h)

  module _ (change : (j : Entry G C) → j.0.Denot → j.0.Denot → Type 0) (x : (T.entry at).0.Denot) where
    -- the layer changed so, and the box is one of what it became
    abbrev pub ChangesTo : (i : T.I) → (T.entry i).0.Denot → Type 0
    ChangesTo i new = (y : (T.entry at).0.Denot) × IsBoxOf T at i new y × change (T.entry at) x y

    changed : (i : T.I)
        → at ≡ i → (y new : (T.entry i).0.Denot) → (T.entry i).0.coded.code y ≡ (T.entry at).0.coded.code x → change (T.entry i) y new → ChangesTo i new
    changed i same =
        subst (λ (k : T.I). (y new : (T.entry k).0.Denot)
        → (T.entry k).0.coded.code y ≡ (T.entry at).0.coded.code x → change (T.entry k) y new → ChangesTo k new) same
        (λ y new code s. (new, record { index = refl; codes = refl }, subst (λ z. change (T.entry at) z new) ((T.entry at).0.coded.inj y x code) s))

    -- and changes as the layer does: where it is put in use, or on a registry
    pub changes_in_a_box : (b c : Boxed) → Holds b x → ChangesInside (λ k. change (T.entry k.object.vtable)) b c → ChangesTo c.object.vtable c.object.value
    changes_in_a_box b c made s =
        subst (λ (o : DynBox T.I Global (λ i. (T.entry i).0.Denot)). ChangesTo o.vtable o.value)
        (sym s.1) (changed b.object.vtable (sym made.index) b.object.value s.0 made.codes s.2)

  -- it goes on as the layer does, where it is notified
  pub steps_in_a_box : (steps : (j : Entry G C) → LayerSteps j.0.Denot) (x : (T.entry at).0.Denot)
      (b : Boxed) (p : Plan) (e : Notice) (lane : ℕ) (under : FilterSet) (v : RegistryState) (c : Boxed) (w : RegistryState)
      → Holds b x → StepsInside (λ k. steps (T.entry k.object.vtable)) b p e lane under v c w
      → ChangesTo (λ j y z. steps j y p e lane under v z w) x c.object.vtable c.object.value
  steps_in_a_box steps x b p e lane under v c w made s = changes_in_a_box (λ j y z. steps j y p e lane under v z w) x b c made s

  module _ (form : (j : Entry G C) → j.0.Denot → Form → Type 0) (steps : (j : Entry G C) → LayerSteps j.0.Denot)
      (reloaded : (j : Entry G C) → ReloadSteps j.0.Denot) (hears : (j : Entry G C) → HearSteps j.0.Denot) (acts_at : (j : Entry G C) → ActsAt j.0.Denot)
      (laws : HearLaws (hears (T.entry at))) (x : (T.entry at).0.Denot) (b : Boxed) (made : Holds b x) (position : Position) where
    -- what a box hears, lawfully
    abbrev pub BoxHearsLawfully : HearSteps Boxed
    BoxHearsLawfully = HearsLawfully (λ k. form (T.entry k.object.vtable) k.object.value) (StepsInside (λ k. steps (T.entry k.object.vtable)))
        (ReloadsInside (λ k. reloaded (T.entry k.object.vtable))) (HearsInside (λ k. hears (T.entry k.object.vtable)))
        (λ k. acts_at (T.entry k.object.vtable) k.object.value)

    -- and hears as the layer does
    pub hears_in_a_box : {h : Heard} {c : Boxed}
        → BoxHearsLawfully b position h c → ChangesTo (λ j y z. hears j y position h z) x c.object.vtable c.object.value
    hears_in_a_box Nothing = (x, made, laws.nothing x position)
    hears_in_a_box (Further {h} {y} {z} before p e lane under v w f s has) =
        let u = hears_in_a_box before in
        let k = heard_by p position (told_in e v.store lane (mask_at f position under)) in
        let t = changes_in_a_box (λ j a o. hears j a position k o) u.0 y z u.1 (s.heard position f has) in
        (t.0, t.1, laws.further x u.0 t.0 position h k u.2 t.2)
    hears_in_a_box (Reloaded {h} {y} {z} before n l s) =
        let u = hears_in_a_box before in
        let t = changes_in_a_box (λ j a o. hears j a position [] o) u.0 y z u.1 (s.heard position) in
        (t.0, t.1, subst (λ k. hears (T.entry at) x position k t.0) (append-nil h) (laws.further x u.0 t.0 position h [] u.2 t.2))
