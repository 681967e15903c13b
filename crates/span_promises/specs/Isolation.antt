-- A leaf is notified of the same in every stack, and alone: where the same outcomes were made, or
-- the same requests were made and answered the same, filters that act alike stand round the leaf,
-- and the stores agree as far as these filters go.
use Rattle.std.specs.Prelude.{◌≡◌, List, [], map}
use Rattle.std.specs.List.{FoldsTo, filter}
use Rattle.span_core.specs.Filters.{FilterSet}
use Rattle.span_dispatch.specs.Alone.{Alone, PathsActAlike, form_of_path, passed_at}
use Rattle.span_dispatch.specs.Cache.{KeptCallsites}
use Rattle.span_dispatch.specs.Contract.{SubscriberOf}
use Rattle.span_dispatch.specs.Call.{OutcomesOf}
use Rattle.span_dispatch.specs.Outcome.{OutcomeAt, Makes, Outcome, Steps}
use Rattle.span_dispatch.specs.Serve.{Run, Served, flat, outcome_of, stack_of}
use Rattle.span_dispatch.specs.declared.dispatch.Dispatch.{Dispatch}
use Rattle.span_dispatch.specs.declared.request.Answer.{Answer}
use Rattle.span_dispatch.specs.declared.request.Request.{Request}
use Rattle.span_store.specs.Store.{RegistryState, Store}
use Rattle.span_registry.specs.Agree.{AgreeAt}
use Rattle.span_registry.specs.Conducts.{ActsAt, Conducts, numbers_in, path_now}
use Rattle.span_registry.specs.Form.{Form}
use Rattle.span_registry.specs.Hooks.{StackSteps, no_filter}
use Rattle.span_registry.specs.Reload.{ReloadSteps}
use Rattle.span_registry.specs.Position.{HearSteps, Heard, Position}
use Rattle.span_promises.specs.MadeCall.{AloneOf, MadeCall, OutcomesFrom, concerns, made_calls}

-- what a leaf may be notified of behind filters of these conducts, from this store on, of what was
-- made: of outcomes, or of made calls
abbrev pub Sight : Type 0 → Type 1
Sight M = Conducts → Store → M → Heard → Type 0

-- leaves behind filters that act alike, from stores on that agree as far as these go, are notified
-- of the same, where the same was made
abbrev pub SeeTheSame : {M : Type 0} → Sight M → Sight M → Type 0
SeeTheSame {M} Sees Other =
    (cs ds : Conducts) (s t : Store) (made : M) (h k : Heard) → Sees cs s made h → Other ds t made k
    → PathsActAlike cs ds → AgreeAt (numbers_in cs) s t → h ≡ k

-- what a leaf is notified of is what it would be notified of alone, from each store on that agrees
-- as far as these filters go
abbrev pub SeenAlone : {M : Type 0} → Sight M → Sight M → Type 0
SeenAlone {M} Sees OnlyIt =
    (cs : Conducts) (s t : Store) (made : M) (h : Heard) → Sees cs s made h
    → AgreeAt (numbers_in cs) s t → OnlyIt cs t made h

-- what the leaf at some position of a stack is notified of, from outcomes that were made
pub record SeesMade {S : Type 0} (registry : S → RegistryState)
    (with_registry : S → RegistryState → S) (has_form : S → Form → Type 0) (stepped : StackSteps S)
    (reloaded : ReloadSteps S) (acts_at : ActsAt S) (cs : Conducts) (s : Store)
    (outcomes : List Outcome) (h : Heard) : Type 0 where
  pub old : S
  pub new : S
  pub made : List OutcomeAt
  pub goes : FoldsTo (Makes registry with_registry has_form stepped reloaded) old made new
  pub position : Position
  pub acts : acts_at old position cs
  pub at_store : (registry old).store ≡ s
  pub at_outcomes : map outcome_of made ≡ outcomes
  pub sees : passed_at position made ≡ h

-- what the leaf at some position of a dispatcher's stack is notified of, from all that was made of
-- a list of requests
pub record SeesServed {S : Type 0} (registry : S → RegistryState)
    (with_registry : S → RegistryState → S) (has_form : S → Form → Type 0) (stepped : StackSteps S)
    (reloaded : ReloadSteps S) (hears : HearSteps S) (acts_at : ActsAt S) (cs : Conducts)
    (s : Store) (outcomes : List Outcome) (h : Heard) : Type 0 where
  pub old : Dispatch S
  pub new : Dispatch S
  pub requests : List Request
  pub answers : List Answer
  pub served : Served registry with_registry has_form stepped reloaded hears acts_at requests
      answers old new
  pub position : Position
  pub acts : acts_at (stack_of old) position cs
  pub at_store : (registry (stack_of old)).store ≡ s
  pub at_outcomes : map outcome_of (flat served.made) ≡ outcomes
  pub sees : passed_at position (flat served.made) ≡ h

-- what the leaf at some position of a dispatcher's stack is notified of, from a list of requests of
-- which these calls were made, as far as the filters round the leaf go
pub record SeesCalls {S : Type 0} (registry : S → RegistryState)
    (with_registry : S → RegistryState → S) (has_form : S → Form → Type 0) (stepped : StackSteps S)
    (reloaded : ReloadSteps S) (hears : HearSteps S) (acts_at : ActsAt S) (cs : Conducts)
    (s : Store) (calls : List MadeCall) (h : Heard) : Type 0 where
  pub old : Dispatch S
  pub new : Dispatch S
  pub requests : List Request
  pub answers : List Answer
  pub served : Served registry with_registry has_form stepped reloaded hears acts_at requests
      answers old new
  pub position : Position
  pub acts : acts_at (stack_of old) position cs
  pub at_store : (registry (stack_of old)).store ≡ s
  pub at_calls : made_calls (numbers_in cs) [] requests answers ≡ calls
  pub sees : passed_at position (flat served.made) ≡ h

-- what was made of a list that was run is what its made calls have by themselves, as far as filters
-- of any numbers go
abbrev pub SaysWhatIsMade : {S : Type 0} → (S → RegistryState)
    → (List Request → List Answer → List (List OutcomeAt) → KeptCallsites → S → KeptCallsites → S
    → Type 0)
    → Type 0
SaysWhatIsMade {S} registry Runs =
    (numbers : FilterSet) (rs : List Request) (answers : List Answer) (made : List (List OutcomeAt))
    (kept after : KeptCallsites) (x y : S) → Runs rs answers made kept x after y
    → OutcomesFrom (registry x).store (made_calls numbers [] rs answers)
    (filter (concerns numbers) (map outcome_of (flat made)))

-- on stores that agree as far as some filters go, a call that is answered the same has the same
-- outcomes
abbrev pub HasSameOutcomes : FilterSet → MadeCall → Type 0
HasSameOutcomes numbers one =
    (s t : Store) (os us : List Outcome) → AgreeAt numbers s t → OutcomesOf one.0 one.1 s os
    → OutcomesOf one.0 one.1 t us → os ≡ us

-- on stores that agree, filters' verdicts aside, calls in a row that are answered the same have the
-- same outcomes
abbrev pub HaveSameOutcomes : List MadeCall → Type 0
HaveSameOutcomes calls =
    (s t : Store) (os us : List Outcome) → AgreeAt no_filter s t → OutcomesFrom s calls os
    → OutcomesFrom t calls us → os ≡ us

-- behind filters that act alike, an outcome leaves stores that agree as those before it did
abbrev pub KeepsAgreement : Outcome → Type 0
KeepsAgreement o =
    (cs ds : Conducts) (s t u v : Store) → PathsActAlike cs ds → AgreeAt (numbers_in cs) s t
    → Steps (form_of_path (path_now cs)) o s u → Steps (form_of_path (path_now ds)) o t v
    → AgreeAt (numbers_in cs) u v

-- Below: what this comes to for stacks of two types.

module _ {S : Type 0} (s : SubscriberOf S) where
  -- what a leaf in a stack of this type is notified of, from outcomes that were made
  abbrev pub MadeIn : Sight (List Outcome)
  MadeIn = SeesMade s.registry s.with_registry s.has_form s.stepped s.reloaded s.acts_at

  -- what a leaf in a stack of this type is notified of, from all that was made of a list that was
  -- served
  abbrev pub ServedIn : Sight (List Outcome)
  ServedIn =
      SeesServed s.registry s.with_registry s.has_form s.stepped s.reloaded s.hears s.acts_at

  -- what a leaf in a stack of this type is notified of, from the made calls of a list that was
  -- served
  abbrev pub AskedIn : Sight (List MadeCall)
  AskedIn = SeesCalls s.registry s.with_registry s.has_form s.stepped s.reloaded s.hears s.acts_at

-- leaves behind filters that act alike are notified of the same, where the same outcomes were made,
-- in stacks and alone
pub record OutcomesSeenTheSame {S T : Type 0} (one : SubscriberOf S)
    (other : SubscriberOf T) : Type 0 where
  -- two leaves that stand alone are notified of the same
  pub alone : SeeTheSame Alone Alone
  -- a leaf in a stack of the one type and one in a stack of the other are notified of the same
  pub made : SeeTheSame (MadeIn one) (MadeIn other)
  -- a leaf in a stack and one that stands alone are notified of the same
  pub made_alone : SeeTheSame (MadeIn one) Alone
  -- leaves in stacks of both types are notified of the same, by lists that were served, where the
  -- same was made
  pub served : SeeTheSame (ServedIn one) (ServedIn other)

-- leaves behind filters that act alike are notified of the same, where the same calls were made, in
-- stacks and alone; and made calls say by themselves what was made
pub record CallsSeenTheSame {S T : Type 0} (one : SubscriberOf S)
    (other : SubscriberOf T) : Type 0 where
  -- two leaves that stand alone are notified of the same
  pub calls : SeeTheSame AloneOf AloneOf
  -- leaves in stacks of both types are notified of the same, by lists that have the same made calls
  pub requests : SeeTheSame (AskedIn one) (AskedIn other)
  -- a leaf in a stack is notified of what it would be alone, from the made calls of a list
  pub requests_alone : SeenAlone (AskedIn one) AloneOf
  -- what was made of a list is what its made calls have by themselves, as far as filters of any
  -- numbers go
  pub says : SaysWhatIsMade one.registry
      (Run one.registry one.with_registry one.has_form one.stepped one.reloaded [])
