-- What every filter keeps: its answers are honest, its hooks keep interest and hint, and where it
-- is plain extensions make no difference.
use Rattle.std.specs.Prelude.{◌≡◌, ℕ, Bool, [], ◌∷◌}
use Rattle.span_core.specs.Filters.{FilterSet}
use Rattle.span_core.specs.declared.event.Event.{Event}
use Rattle.span_core.specs.declared.metadata.Metadata.{Metadata}
use Rattle.span_store.specs.Store.{RegistryState}
use Rattle.span_registry.specs.Behaviour.{AnswerAlike, Behaviour, AreHonest, ArePlain, Conduct, IsPlain, Notice, SameInterestAndHint, OfNotice}
use Rattle.span_registry.specs.Conducts.{after_reload}
use Rattle.span_registry.specs.Context.{filters_lent, lane_lent, subscriber_lent}
use Rattle.span_registry.specs.View.{View, view_of}
use Rattle.span_registry.specs.declared.context.ContextMut.{ContextMut}
use Rattle.span_targets.specs.declared.setting.Setting.{Setting}

-- an answer is what a filter's answers give
abbrev pub Says : {A : Type 0} → (Behaviour → Type 0) → (Behaviour → A) → A → Type 0
Says has which answer = (a : Behaviour) → has a → answer ≡ which a

-- whether metadata are enabled in this view, by whatever answers a filter has
abbrev pub SaysEnabled : (Behaviour → Type 0) → Metadata → View → Bool → Type 0
SaysEnabled has m v = Says has (λ a. a.enabled m v)

-- whether an event is enabled in this view, of which the metadata are, by whatever answers a filter
-- has
abbrev pub SaysEvent : (Behaviour → Type 0) → Event → View → Bool → Type 0
SaysEvent has e v = Says has (λ a. a.event e v)

-- how a filter goes on when it is notified: which filter by which notice, on which lane, under
-- which filters, in which registry, becomes which, and which registry it leaves
abbrev pub FilterSteps : Type 0 → Type 1
FilterSteps F = F → Notice → ℕ → FilterSet → RegistryState → F → RegistryState → Type 0

-- a filter that does nothing: filter and registry are unchanged
abbrev pub unmoved : {F : Type 0} → FilterSteps F
unmoved f e lane under v g w = (g ≡ f) × (w ≡ v)

-- a filter is notified in a context, and goes on by its step
abbrev pub Notified : {F S : Type 0} → FilterSteps F → (S → RegistryState) → Notice → F
    → ContextMut S → F → ContextMut S → Type 0
Notified hooked registry e f c g d =
    hooked f e (lane_lent c).0 (filters_lent c) (registry (subscriber_lent c)) g
    (registry (subscriber_lent d))

-- a filter has answers after a step, with the interest and hint of those before it
abbrev pub KeepsInterestAndHint : (Behaviour → Type 0) → Behaviour → Type 0
KeepsInterestAndHint has a = (b : Behaviour) × has b × SameInterestAndHint a b

-- the law of every filter: its answers are honest, and its hooks keep interest and hint. A filter
-- that has a conduct is plain: that conduct says how it now answers, as all its answers do, and
-- goes on with each notice
pub record FilterLaws {F : Type 0} (has_answers : F → Behaviour → Type 0) (hooked : FilterSteps F)
    (acts : F → Conduct → Type 0) : Type 0 where
  pub honest : (f : F) (a : Behaviour) → has_answers f a → AreHonest a
  pub keeps : (f : F) (e : Notice) (lane : ℕ) (under : FilterSet) (v : RegistryState) (g : F)
      (w : RegistryState) (a : Behaviour) → hooked f e lane under v g w → has_answers f a
      → KeepsInterestAndHint (has_answers g) a
  pub plain : (f : F) (b : Conduct) → acts f b → IsPlain b
  pub now : (f : F) (b : Conduct) → acts f b → has_answers f (b [])
  pub only : (f : F) (a : Behaviour) (b : Conduct) → has_answers f a → acts f b
      → AnswerAlike a (b [])
  pub goes_on : (f : F) (e : Notice) (lane : ℕ) (under : FilterSet) (v : RegistryState) (g : F)
      (w : RegistryState) (b : Conduct) → acts f b → hooked f e lane under v g w
      → acts g (λ h. b (OfNotice e (view_of v.store lane under) ∷ h))

-- how a filter goes on when it is reloaded: which filter becomes which, by which setting
abbrev pub FilterReloadSteps : Type 0 → Type 1
FilterReloadSteps F = F → Setting → F → Type 0

-- a filter takes no setting, and is unchanged
abbrev pub unreloaded : {F : Type 0} → FilterReloadSteps F
unreloaded f s g = g ≡ f

-- the law of reloading of every filter: one that had answers has answers afterwards, and its
-- conduct goes on with the setting
pub record FilterReloadLaws {F : Type 0} (has_answers : F → Behaviour → Type 0)
    (reloaded : FilterReloadSteps F) (acts : F → Conduct → Type 0) : Type 0 where
  pub answers : (f : F) (s : Setting) (g : F) (a : Behaviour) → reloaded f s g → has_answers f a
      → (b : Behaviour) × has_answers g b
  pub goes_on : (f : F) (s : Setting) (g : F) (b : Conduct) → reloaded f s g → acts f b
      → acts g (after_reload s b)

-- a filter always answers alike, as this conduct says, and extensions make no difference to that
pub record ActsSteadily {F : Type 0} (has : F → Behaviour → Type 0) (f : F)
    (conduct : Conduct) : Type 0 where
  pub always : Behaviour
  pub answered : has f always
  pub only : (a : Behaviour) → has f a → AnswerAlike a always
  pub plain : ArePlain always
  pub steady : conduct ≡ (λ h. always)

-- the answers of a filter whose state settles them
abbrev pub settled_answers : {F : Type 0} → (F → Behaviour) → F → Behaviour → Type 0
settled_answers answers f a = a ≡ answers f

-- whatever answers a filter has, they are alike
abbrev pub HasOnly : {F : Type 0} → (F → Behaviour → Type 0) → F → Type 0
HasOnly has f = (a b : Behaviour) → has f a → has f b → AnswerAlike a b

-- whatever answers a filter has, it always answers by them
abbrev pub IsSteady : {F : Type 0} → (F → Behaviour → Type 0) → (F → Conduct → Type 0) → F → Type 0
IsSteady has acts f = (a : Behaviour) → has f a → acts f (λ h. a)

-- whatever plain answers a filter has, it always answers by them
abbrev pub MayBeSteady : {F : Type 0} → (F → Behaviour → Type 0) → (F → Conduct → Type 0) → F
    → Type 0
MayBeSteady has acts f = (a : Behaviour) → has f a → ArePlain a → acts f (λ h. a)

-- each copy of a value is the value
abbrev pub CopiesAlike : {A : Type 0} → (A → A → Type 0) → A → Type 0
CopiesAlike {A = A} is_clone x = (copy : A) → is_clone x copy → copy ≡ x
