-- A leaf that refuses nothing, and is notified through one method.
use Rattle.std.specs.Prelude.{◌≡◌, ℕ, true, false, None}
use Rattle.span_core.specs.Filters.{FilterSet}
use Rattle.span_core.specs.declared.interest.Interest.TheVariants.{Always}
use Rattle.span_layers.specs.declared.observe.Observer.{Observer}
use Rattle.span_store.specs.Store.{RegistryState}
use Rattle.span_registry.specs.Behaviour.{Behaviour, Notice}
use Rattle.span_registry.specs.Context.{filters_lent, lane_lent, subscriber_lent}
use Rattle.span_registry.specs.Notice.{notice_of}
use Rattle.span_registry.specs.Plan.{Itself, Plan}
use Rattle.span_registry.specs.declared.notice.Notice.{Notice as NoticeInCode}
use Rattle.span_registry.specs.declared.context.ContextMut.{ContextMut}

-- how an observer goes on: which observer by which notice, on which lane, under which filters, in
-- which registry, becomes which, and which registry it leaves
abbrev pub ObserverSteps : Type 0 → Type 1
ObserverSteps T = T → Notice → ℕ → FilterSet → RegistryState → T → RegistryState → Type 0

-- an observer is notified in a context, and goes on by its step
abbrev pub Observes : {T S : Type 0} → ObserverSteps T → (S → RegistryState) → NoticeInCode → T
    → ContextMut S → T → ContextMut S → Type 0
Observes observed registry e x c y d =
    observed x (notice_of e) (lane_lent c).0 (filters_lent c) (registry (subscriber_lent c)) y
    (registry (subscriber_lent d))

-- the observer in a layer
abbrev pub observer_of : {T : Type 0} → Observer T → T
observer_of x = x.observer

-- the layer with another observer in it
abbrev pub with_observer : {T : Type 0} → Observer T → T → Observer T
with_observer x observer = record x { observer = observer }

-- what an observer answers: it refuses nothing, and is interested in everything
abbrev pub open_answers : Behaviour
open_answers = record {
  enabled = λ m v. true;
  event = λ e v. true;
  interest = λ m. Always;
  hint = None;
  takes = λ l. false;
}

-- an observer as a leaf: the plan is a leaf's, and it is notified
abbrev pub ObserverStep : {T : Type 0} → ObserverSteps T → T → Plan → Notice → ℕ → FilterSet
    → RegistryState → T → RegistryState → Type 0
ObserverStep observed x p e lane under v y w = (p ≡ Itself) × observed x e lane under v y w
