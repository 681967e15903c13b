-- Parents and children among what was made of requests, in whichever stack.
use Rattle.std.specs.Prelude.{◌≡◌, ◌⊎◌, ℕ, List, [], ◌∷◌, Some}
use Rattle.std.specs.List.{flat_map}
use Rattle.span_core.specs.Span.{number_of}
use Rattle.span_dispatch.specs.Contract.{SubscriberOf}
use Rattle.span_dispatch.specs.Outcome.{Noticed, Outcome, OutcomeAt}
use Rattle.span_dispatch.specs.Serve.{Served, closed_by, flat, stack_of}
use Rattle.span_dispatch.specs.declared.dispatch.Dispatch.{Dispatch}
use Rattle.span_dispatch.specs.declared.request.Answer.{Answer}
use Rattle.span_dispatch.specs.declared.request.Request.{Request}
use Rattle.span_store.specs.Closes.{Member}
use Rattle.span_store.specs.Store.{AreIssued, parent_of}
use Rattle.span_registry.specs.Behaviour.{OnNewSpan}

-- the span that an outcome opens, if it is of a new span
abbrev pub opened_by : Outcome → List ℕ
opened_by (Noticed lane (OnNewSpan attrs id)) = number_of id ∷ []
opened_by other = []

-- what was made opened this child, and left it with this parent
abbrev pub IsOpenedUnder : ℕ → ℕ → OutcomeAt → Type 0
IsOpenedUnder child parent m =
    Member child (opened_by m.outcome) × (parent_of m.after.spans child ≡ Some parent)

-- among what was made this child was opened under this parent
abbrev pub IsChildIn : ℕ → ℕ → List OutcomeAt → Type 0
IsChildIn child parent [] = ⊥
IsChildIn child parent (m ∷ made) = IsOpenedUnder child parent m ⊎ IsChildIn child parent made

-- among these the first number stands before the second
abbrev pub StandsBefore : ℕ → ℕ → List ℕ → Type 0
StandsBefore x y [] = ⊥
StandsBefore x y (z ∷ zs) = ((z ≡ x) × Member y zs) ⊎ StandsBefore x y zs

-- of what is made of requests, on a store whose spans' ids were issued, no parent closes before its
-- child, whether the child's request named the parent or came from a lane that was in it
abbrev pub ParentsCloseLast : {S : Type 0} → SubscriberOf S → Type 0
ParentsCloseLast {S} s =
    (requests : List Request) (answers : List Answer) (old new : Dispatch S)
    (served : Served s.registry s.with_registry s.has_form s.stepped s.reloaded s.hears s.acts_at
    requests answers old new) (child parent : ℕ) → AreIssued (s.registry (stack_of old)).store
    → IsChildIn child parent (flat served.made)
    → ¬ (StandsBefore parent child (flat_map (λ m. closed_by m.outcome) (flat served.made)))
