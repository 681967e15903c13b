-- What a caller's proof may need of a boxed filter: a box adds nothing to what is in it.
use Rattle.std.specs.Prelude.{◌≡◌, ℕ, refl}
use Rattle.std.proofs.Common.{Global, subst, sym}
use Rattle.std.specs.declared.dyn_box.DynBox.{DynBox}
use denote.Param.Object.{Made, read_made}
use denote.Param.Table.{Entry, Table}
use Rattle.span_core.specs.Filters.{FilterSet}
use Rattle.span_boxed.specs.Filter.{ActsPlainly, AnswersHonestly, StepsInside}
use Rattle.span_filters.specs.Filter.{FilterLaws, FilterSteps}
use Rattle.span_boxed.specs.declared.filter.BoxedFilter.{BoxedFilter}
use Rattle.span_store.specs.Store.{RegistryState}
use Rattle.span_registry.specs.Behaviour.{Behaviour, Conduct, Notice}

-- T and at are `own-1` and `at-1-1` of the caller's `OwnLists`: the types that it puts into boxes, and the one in this box
module _ {G : Type 0 → Type 1} {C : Type 0} (T : Table G C) (at : T.I) where
  -- the box was made of this value
  abbrev pub IsBoxOf : (i : T.I) → (T.entry i).0.Denot → (T.entry at).0.Denot → Type 0
  IsBoxOf i y x = Made (λ j. (T.entry j).0.coded.code) (T.entry at).0.coded.code at i y x

  -- what holds of a value holds of it in a box
  pub in_a_box : (P : (j : Entry G C) → j.0.Denot → Type 0) {i : T.I} {y : (T.entry i).0.Denot} {x : (T.entry at).0.Denot}
      → IsBoxOf i y x → P (T.entry at) x → P (T.entry i) y
  in_a_box P made h = subst (λ (Q : Type 0). Q) (sym (read_made T (T.entry at) at refl (Type 0) P _ _ _ made)) h

  -- a boxed filter has the answers of the filter
  pub answers_in_a_box : (has : (j : Entry G C) → j.0.Denot → Behaviour → Type 0) {steps : FilterSteps (T.entry at).0.Denot}
      {acts : (T.entry at).0.Denot → Conduct → Type 0}
      → FilterLaws (has (T.entry at)) steps acts → {i : T.I} {y : (T.entry i).0.Denot} {x : (T.entry at).0.Denot}
      → IsBoxOf i y x → (a : Behaviour) → has (T.entry at) x a → AnswersHonestly (has (T.entry i) y) a
  answers_in_a_box has laws {x = x} made a h = in_a_box (λ j z. AnswersHonestly (has j z) a) made (record { answered = h; honest = laws.honest x a h })

  -- and its conduct
  pub acts_in_a_box : (has : (j : Entry G C) → j.0.Denot → Behaviour → Type 0) (acts : (j : Entry G C) → j.0.Denot → Conduct → Type 0)
      {steps : FilterSteps (T.entry at).0.Denot}
      → FilterLaws (has (T.entry at)) steps (acts (T.entry at)) → {i : T.I} {y : (T.entry i).0.Denot} {x : (T.entry at).0.Denot}
      → IsBoxOf i y x → (b : Conduct) → acts (T.entry at) x b → ActsPlainly (has (T.entry i) y) (acts (T.entry i) y) b
  acts_in_a_box has acts laws {x = x} made b h =
      let now = laws.now x b h in
      in_a_box (λ j z. ActsPlainly (has j z) (acts j z) b)
      made (record { acted = h; plain = laws.plain x b h; now = record { answered = now; honest = laws.honest x _ now }; only = λ a d. laws.only x a b d h })

  module _ (steps : (j : Entry G C) → FilterSteps j.0.Denot) (e : Notice) (lane : ℕ) (under : FilterSet) (v w : RegistryState) (x : (T.entry at).0.Denot) where
    -- the filter went on, and the box is one of what it became
    abbrev pub StepsTo : (i : T.I) → (T.entry i).0.Denot → Type 0
    StepsTo i new = (y : (T.entry at).0.Denot) × IsBoxOf i new y × steps (T.entry at) x e lane under v y w

    stepped : (i : T.I) → at ≡ i
        → (y new : (T.entry i).0.Denot) → (T.entry i).0.coded.code y ≡ (T.entry at).0.coded.code x → steps (T.entry i) y e lane under v new w → StepsTo i new
    stepped i same =
        subst (λ (k : T.I). (y new : (T.entry k).0.Denot)
        → (T.entry k).0.coded.code y ≡ (T.entry at).0.coded.code x → steps (T.entry k) y e lane under v new w → StepsTo k new) same
        (λ y new code s.
        (new, record { index = refl; codes = refl }, subst (λ z. steps (T.entry at) z e lane under v new w) ((T.entry at).0.coded.inj y x code) s))

    -- and goes on as the filter does
    pub steps_in_a_box : (f g : BoxedFilter T.I (λ i. (T.entry i).0.Denot))
        → IsBoxOf f.object.vtable f.object.value x → StepsInside (λ k. steps (T.entry k.object.vtable)) f e lane under v g w
        → StepsTo g.object.vtable g.object.value
    steps_in_a_box f g made s =
        subst (λ (o : DynBox T.I Global (λ i. (T.entry i).0.Denot)). StepsTo o.vtable o.value)
        (sym s.1) (stepped f.object.vtable (sym made.index) f.object.value s.0 made.codes s.2)
