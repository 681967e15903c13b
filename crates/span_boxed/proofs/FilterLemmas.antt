-- Boxed filters keep the law, and so do the filters in their boxes.
use mathlib.Core.List.{mem-append_right}
use base.Fml.{Incl, Lft}
use Rattle.std.specs.Prelude.{◌≡◌, ℕ, ◌++◌, refl}
use Rattle.std.proofs.Common.{ap, subst, ◌∙◌}
use Rattle.span_core.specs.Filters.{FilterSet}
use Rattle.span_targets.specs.declared.setting.Setting.{Setting}
use Rattle.span_boxed.specs.Filter.{KeepsLaw, KeepsReloadLaw, ReloadsLawfully, StepsLawfully}
use Rattle.span_filters.specs.Filter.{FilterLaws, FilterReloadLaws, FilterReloadSteps, FilterSteps}
use Rattle.span_store.specs.Store.{RegistryState}
use Rattle.span_registry.specs.Behaviour.{Behaviour, Conduct, Notice}
use Rattle.span_registry.specs.View.{view_of}

-- a filter that keeps the law keeps it as an object
pub law_kept : {F : Type 0} {has : F → Behaviour → Type 0} {steps : FilterSteps F} {acts : F → Conduct → Type 0} → FilterLaws has steps acts
    → (f : F) (e : Notice) (lane : ℕ) (under : FilterSet) (v : RegistryState) (g : F) (w : RegistryState) → steps f e lane under v g w
    → KeepsLaw has acts e (view_of v.store lane under) f g
law_kept laws f e lane under v g w s = record {
  answers = λ a h. let x = laws.keeps f e lane under v g w a s h in (x.0, record { answered = x.1; honest = laws.honest g x.0 x.1 }, x.2);
  conduct = λ b h.
      let n = laws.goes_on f e lane under v g w b h s in
      let c = laws.now g _ n in
      record { acted = n; plain = laws.plain g _ n; now = record { answered = c; honest = laws.honest g _ c }; only = λ a d. laws.only g a _ d n };
}

-- the same of levels
pub reload_law_kept : {F : Type 0} {has : F → Behaviour → Type 0} {steps : FilterSteps F} {reloaded : FilterReloadSteps F} {acts : F → Conduct → Type 0}
    → FilterLaws has steps acts → FilterReloadLaws has reloaded acts
    → (f : F) (l : Setting) (g : F) → reloaded f l g → KeepsReloadLaw has acts l f g
reload_law_kept laws levels f l g s = record {
  answers = λ a h. let x = levels.answers f l g a s h in (x.0, record { answered = x.1; honest = laws.honest g x.0 x.1 });
  conduct = λ b h.
      let n = levels.goes_on f l g b s h in
      let c = laws.now g _ n in
      record { acted = n; plain = laws.plain g _ n; now = record { answered = c; honest = laws.honest g _ c }; only = λ a d. laws.only g a _ d n };
}

-- what a call of an object asks: that its type outlives the call, and what the call requires
pub asked_of_object : {A : Type 0} (x : A) (call lives : Lft) (P : Type 0) → P → (x ≡ x) × (Incl call (call ++ lives) → Unit {0} × (Incl call lives × P))
asked_of_object x call lives P p = (refl, λ i. (tt, ((λ a m. i a (mem-append_right call m)), p)))

-- the object that was called is the one in the box: where it goes on so and keeps the law, so does the box
pub boxed_lawfully : {I : Type 0} {V : I → Type 0}
    {B : Type 0} (boxed : (i : I) → V i → B) (has : B → Behaviour → Type 0) (inside : FilterSteps B) (acts : B → Conduct → Type 0)
    (x y : (i : I) × V i) → x ≡ y
    → (e : Notice) (lane : ℕ) (under : FilterSet) (v : RegistryState) (z : V x.0) (w : RegistryState) → inside (boxed x.0 x.1) e lane under v (boxed x.0 z) w
    → KeepsLaw (λ k. has (boxed x.0 k)) (λ k. acts (boxed x.0 k)) e (view_of v.store lane under) x.1 z
    → StepsLawfully has inside acts (boxed y.0 y.1) e lane under v (boxed x.0 z) w
boxed_lawfully {I} {V} boxed has inside acts x y same e lane under v z w taken law =
    subst (λ (p : (i : I) × V i). StepsLawfully has inside acts (boxed p.0 p.1) e lane under v (boxed x.0 z) w) same
    (record { taken = taken; law = record { answers = law.answers; conduct = law.conduct } })

-- the same, lent on another context, where that has the same lane, the same filters and the same registries
pub carried_over : {B : Type 0} {has : B → Behaviour → Type 0}
    {inside : FilterSteps B} {acts : B → Conduct → Type 0} {x y : B} {e : Notice} {lane mid : ℕ} {under down : FilterSet} {v u w r : RegistryState}
    → StepsLawfully has inside acts x e lane under v y w → lane ≡ mid → under ≡ down → v ≡ u → w ≡ r → StepsLawfully has inside acts x e mid down u y r
carried_over {has = has} {inside = inside}
    {acts = acts} {x = x} {y = y} {e = e} {lane = lane} {mid = mid} {under = under} {down = down} {v = v} {u = u} {w = w} {r = r} steps a b c d =
    subst (λ l. StepsLawfully has inside acts x e l down u y r) a
    (subst (λ n. StepsLawfully has inside acts x e lane n u y r) b
    (subst (λ s. StepsLawfully has inside acts x e lane under s y r) c
    (subst (λ s. StepsLawfully has inside acts x e lane under v y s) d steps)))

-- the same where a level is set
pub boxed_level : {I : Type 0} {V : I → Type 0}
    {B : Type 0} (boxed : (i : I) → V i → B) (has : B → Behaviour → Type 0) (inside : FilterReloadSteps B) (acts : B → Conduct → Type 0)
    (x y : (i : I) × V i) → x ≡ y → (l : Setting) (z : V x.0) → inside (boxed x.0 x.1) l (boxed x.0 z)
    → KeepsReloadLaw (λ k. has (boxed x.0 k)) (λ k. acts (boxed x.0 k)) l x.1 z → ReloadsLawfully has inside acts (boxed y.0 y.1) l (boxed x.0 z)
boxed_level {I} {V} boxed has inside acts x y same l z taken law =
    subst (λ (p : (i : I) × V i). ReloadsLawfully has inside acts (boxed p.0 p.1) l (boxed x.0 z)) same
    (record { taken = taken; law = record { answers = law.answers; conduct = law.conduct } })

-- where the object stays as it is, so does the box
pub boxed_same : {I : Type 0} {V : I → Type 0} {B : Type 0} (boxed : (i : I) → V i → B) (x y : (i : I) × V i)
    → x ≡ y → (z : V x.0) → z ≡ x.1 → boxed x.0 z ≡ boxed y.0 y.1
boxed_same {I} {V} boxed x y same z e = ap (boxed x.0) e ∙ ap (λ (p : (i : I) × V i). boxed p.0 p.1) same
