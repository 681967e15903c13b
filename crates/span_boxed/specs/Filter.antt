-- What a boxed filter keeps: it answers, goes on and acts as the object in the box does, where that
-- is honest and plain.
use Rattle.std.specs.Prelude.{◌≡◌, ℕ, [], ◌∷◌}
use Rattle.span_core.specs.Filters.{FilterSet}
use Rattle.span_targets.specs.declared.setting.Setting.{Setting}
use Rattle.span_filters.specs.Filter.{FilterReloadSteps, FilterSteps, KeepsInterestAndHint}
use Rattle.span_boxed.specs.declared.filter.BoxedFilter.{BoxedFilter}
use Rattle.span_store.specs.Store.{RegistryState}
use Rattle.span_registry.specs.Behaviour.{AnswerAlike, Behaviour, AreHonest, Conduct, IsPlain, Notice, OfNotice}
use Rattle.span_registry.specs.Conducts.{after_reload}
use Rattle.span_registry.specs.View.{View, view_of}

-- the registry that a registry stands on: itself
abbrev pub itself : RegistryState → RegistryState
itself r = r

-- a registry with another one in its place: that other one
abbrev pub replaced : RegistryState → RegistryState → RegistryState
replaced r other = other

-- a filter has these answers, and they are honest
pub record AnswersHonestly (has : Behaviour → Type 0) (a : Behaviour) : Type 0 where
  pub answered : has a
  pub honest : AreHonest a

-- a filter has this conduct, which is plain, and says how the filter now answers, as all its
-- answers do
pub record ActsPlainly (has : Behaviour → Type 0) (acts : Conduct → Type 0) (b : Conduct) : Type
    0 where
  pub acted : acts b
  pub plain : IsPlain b
  pub now : AnswersHonestly has (b [])
  pub only : (a : Behaviour) → has a → AnswerAlike a (b [])

-- the filter f, notified of this in this view, is now g, and the law is kept: whatever f answered,
-- g has honest answers of the same interest and hint, and whatever conduct f had goes on
pub record KeepsLaw {F : Type 0} (has : F → Behaviour → Type 0) (acts : F → Conduct → Type 0)
    (e : Notice) (seen : View) (f g : F) : Type 0 where
  pub answers : (a : Behaviour) → has f a → KeepsInterestAndHint (AnswersHonestly (has g)) a
  pub conduct : (b : Conduct) → acts f b
      → ActsPlainly (has g) (acts g) (λ h. b (OfNotice e seen ∷ h))

-- a filter that is notified goes on by its step, and keeps the law
pub record StepsLawfully {F : Type 0} (has : F → Behaviour → Type 0) (steps : FilterSteps F)
    (acts : F → Conduct → Type 0) (f : F) (e : Notice) (lane : ℕ) (under : FilterSet)
    (v : RegistryState) (g : F) (w : RegistryState) : Type 0 where
  pub taken : steps f e lane under v g w
  pub law : KeepsLaw has acts e (view_of v.store lane under) f g

-- the object in a box is notified and goes on by its step: the box then holds another value of the
-- same type
abbrev pub StepsInside : {I : Type 0} {V : I → Type 0}
    → ((f : BoxedFilter I V) → FilterSteps (V f.object.vtable)) → FilterSteps (BoxedFilter I V)
StepsInside {V = V} steps f e lane under v g w =
    (y : V f.object.vtable) × (g.object ≡ record f.object { value = y })
    × steps f f.object.value e lane under v y w

-- the filter f, which was to take this setting, is now g, and the law of reloading is kept
pub record KeepsReloadLaw {F : Type 0} (has : F → Behaviour → Type 0) (acts : F → Conduct → Type 0)
    (l : Setting) (f g : F) : Type 0 where
  pub answers : (a : Behaviour) → has f a → (b : Behaviour) × AnswersHonestly (has g) b
  pub conduct : (b : Conduct) → acts f b → ActsPlainly (has g) (acts g) (after_reload l b)

-- a filter that is reloaded goes on by its step, and keeps the law of reloading
pub record ReloadsLawfully {F : Type 0} (has : F → Behaviour → Type 0)
    (reloaded : FilterReloadSteps F) (acts : F → Conduct → Type 0) (f : F) (l : Setting)
    (g : F) : Type 0 where
  pub taken : reloaded f l g
  pub law : KeepsReloadLaw has acts l f g

-- the object in a box is reloaded: the box then holds another value of the same type
abbrev pub ReloadsInside : {I : Type 0} {V : I → Type 0}
    → ((f : BoxedFilter I V) → FilterReloadSteps (V f.object.vtable))
    → FilterReloadSteps (BoxedFilter I V)
ReloadsInside {V = V} reloaded f l g =
    (y : V f.object.vtable) × (g.object ≡ record f.object { value = y })
    × reloaded f f.object.value l y
