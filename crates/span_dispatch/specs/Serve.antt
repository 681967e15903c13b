-- How a dispatcher serves a call, and a list of requests.
use Rattle.std.specs.Prelude.{◌≡◌, ℕ, List, [], ◌∷◌, ◌++◌, map, Option, Some, None, slice_get}
use Rattle.std.specs.List.{AllByRecursion, FoldsTo, flat_map}
use Rattle.std.specs.Option.{option_and_then, option_map, option_map_or}
use Rattle.std.specs.declared.alloc.Global.{Global}
use Rattle.span_core.specs.{Event.event_of, Span.attributes_of, Span.number_of, Span.record_of}
use Rattle.span_core.specs.declared.span.{Id.Id, Parent.Parent}
use Rattle.span_core.specs.declared.span.Parent.TheVariants as parent
use Rattle.span_dispatch.specs.{Alone.Alone, Alone.passed_at, Call.OutcomesOf, Call.AnswersWith}
use Rattle.span_dispatch.specs.Cache.{IsUpToDate, KeptCallsites, ReadHint, forgotten, hint_in, kept_in}
use Rattle.span_dispatch.specs.{Registration.next_epoch, Readable.ShowsItsSpan}
use Rattle.span_dispatch.specs.declared.{call.Call.Call, request.Answer.Answer, request.Which.Which}
use Rattle.span_dispatch.specs.declared.call.Call.TheVariants.{AddHandle, AskCurrent, DropHandle, Enter, Exit, Follow, OpenSpan, Probe, RecordValues, SendEvent, Reload}
use Rattle.span_dispatch.specs.Outcome.{IsHonest, OutcomeAt, Makes, Noticed, Outcome}
use Rattle.span_dispatch.specs.declared.{dispatch.Dispatch.Dispatch, recorded.Recorded.Recorded}
use Rattle.span_dispatch.specs.declared.request.Answer.TheVariants as answer
use Rattle.span_dispatch.specs.declared.request.Request.TheVariants as request
use Rattle.span_dispatch.specs.declared.request.{Request.Request, WhichParent.WhichParent}
use Rattle.span_dispatch.specs.declared.request.Which.TheVariants as which
use Rattle.span_dispatch.specs.declared.request.WhichParent.TheVariants as asked
use Rattle.span_store.specs.{Closes.HasNoClosing, Closes.Member, Store.RegistryState, Store.Store}
use Rattle.span_registry.specs.{Behaviour.OnClose, Hooks.StackSteps, Agree.AgreeAt}
use Rattle.span_registry.specs.{Form.Form, Conducts.ActsAt, Conducts.Conducts, Conducts.numbers_in}
use Rattle.span_registry.specs.{Reload.ReloadSteps, Position.HearSteps, Position.Position}
use Rattle.span_dispatch.specs.Recorder.{kept_notice}

-- the stack of a dispatcher
abbrev pub stack_of : {S : Type 0} → Dispatch S → S
stack_of d = d.stack

-- the memory that a dispatcher's cache takes from
abbrev pub alloc_of : {S : Type 0} → Dispatch S → Global
alloc_of d = d.alloc

-- the dispatcher with another stack
abbrev pub with_stack : {S : Type 0} → Dispatch S → S → Dispatch S
with_stack d x = record d { stack = x }

-- the callsites that a dispatcher has cached; none where it is uncached
abbrev pub kept_by : {S : Type 0} → Dispatch S → KeptCallsites
kept_by d = kept_in d.cache

-- the hint that a dispatcher has cached, as it was read; none where it wasn't read yet, and for an
-- uncached one
abbrev pub hint_by : {S : Type 0} → Dispatch S → ReadHint
hint_by d = hint_in d.cache

-- a dispatcher's cache is up to date: what it has is what its stack, of this form and on this many
-- filters, would answer now
abbrev pub KeepsUpToDate : {S : Type 0} → Form → ℕ → Dispatch S → Type 0
KeepsUpToDate f filters d = IsUpToDate f filters d.cache

-- the dispatcher with nothing cached any more, in the next epoch
abbrev pub forgetful : {S : Type 0} → Dispatch S → Dispatch S
forgetful d = record d { cache = forgotten d.cache; epoch = next_epoch d.epoch }

-- the span that an answer gave, if any
abbrev pub made_by : Option Answer → Option Id
made_by (Some (answer.Made x)) = Some x
made_by o = None

-- the span that a request names, given the answers so far
abbrev pub resolved : List Answer → Which → Option Id
resolved past (which.Known x) = Some x
resolved past (which.Made k) = made_by (slice_get past k)

-- the parent that a request names, given the answers so far: a root where its span was not made
abbrev pub resolved_parent : List Answer → WhichParent → Parent
resolved_parent past asked.Root = parent.Root
resolved_parent past asked.Contextual = parent.Contextual
resolved_parent past (asked.Explicit w) =
    option_map_or (λ x. parent.Explicit x) (resolved past w) parent.Root

-- the call that a request asks for, given the answers so far: none where it names no span. Values
-- are handed on as they came
abbrev pub call_of : List Answer → Request → Option Call
call_of past (request.NewSpan lane m p values) =
    Some (OpenSpan lane (attributes_of m values (resolved_parent past p)))
call_of past (request.Event lane m p values) =
    Some (SendEvent lane (event_of m values (resolved_parent past p)))
call_of past (request.Enter lane w) = option_map (λ x. Enter lane x) (resolved past w)
call_of past (request.Exit lane w) = option_map (λ x. Exit lane x) (resolved past w)
call_of past (request.Record lane w values) =
    option_map (λ x. RecordValues lane x (record_of values)) (resolved past w)
call_of past (request.Follows lane w v) =
    option_and_then (λ x. option_map (λ y. Follow lane x y) (resolved past v)) (resolved past w)
call_of past (request.Clone lane w) = option_map (λ x. AddHandle lane x) (resolved past w)
call_of past (request.Drop lane w) = option_map (λ x. DropHandle lane x) (resolved past w)
call_of past (request.Enabled lane m) = Some (Probe lane m)
call_of past (request.Current lane) = Some (AskCurrent lane)
call_of past (request.Reload number setting) = Some (Reload number setting)

-- the outcome in what was made
abbrev pub outcome_of : OutcomeAt → Outcome
outcome_of m = m.outcome

-- the span that an outcome closes, if it is a close
abbrev pub closed_by : Outcome → List ℕ
closed_by (Noticed lane (OnClose id)) = number_of id ∷ []
closed_by other = []

-- no number stands twice in the list
abbrev pub StandOnce : List ℕ → Type 0
StandOnce [] = Unit {0}
StandOnce (x ∷ xs) = ¬ (Member x xs) × StandOnce xs

-- all that was made, request by request, in one list
abbrev pub flat : List (List OutcomeAt) → List OutcomeAt
flat made = flat_map (λ ms. ms) made

-- what a recorder at a position has of what was made, if all of it fitted into its memory
abbrev pub kept_at : List (List OutcomeAt) → Position → List Recorded
kept_at made position = map kept_notice (passed_at position (flat made))

-- a registry, and the form of the layers on it
abbrev pub Formed : Type 0
Formed = RegistryState × Form

-- each leaf was notified of what its path passes of what was made; and where only plain filters
-- stand round it, of what it would be notified of if it stood alone, on any store that differs in
-- extensions and other filters' verdicts only
pub record Sees {S : Type 0} (registry : S → RegistryState) (hears : HearSteps S)
    (acts_at : ActsAt S) (x : S) (made : List OutcomeAt) (y : S) : Type 0 where
  pub each : (position : Position) → hears x position (passed_at position made) y
  pub alone : (position : Position) (cs : Conducts) (s : Store) → acts_at x position cs
      → AgreeAt (numbers_in cs) (registry x).store s
      → Alone cs s (map outcome_of made) (passed_at position made)

module _ {S : Type 0} (registry : S → RegistryState) (with_registry : S → RegistryState → S)
    (has_form : S → Form → Type 0) (stepped : StackSteps S) (reloaded : ReloadSteps S) where
  -- a stack is ready, as it is between two requests: no span is closing, and it is honest by this
  -- form
  pub record IsReady (f : Form) (x : S) : Type 0 where
    pub honest : IsHonest registry with_registry has_form stepped reloaded f x
    pub settled : HasNoClosing (registry x).store.spans

  -- a dispatcher is ready by a form: its stack is, and its cache is up to date
  pub record IsReadyBy (f : Form) (d : Dispatch S) : Type 0 where
    pub stack : IsReady f (stack_of d)
    pub kept : IsUpToDate f (registry (stack_of d)).filters d.cache

  -- a dispatcher is ready by a form that keeps this much of the old one
  abbrev pub IsReadyAfter : (Form → Form → Type 0) → Form → Dispatch S → Type 0
  IsReadyAfter keeps f d = (g : Form) × IsReadyBy g d × keeps f g

  -- a dispatcher is ready by some form
  abbrev pub IsReadySomehow : Dispatch S → Type 0
  IsReadySomehow d = (f : Form) × IsReadyBy f d

  -- a stack of this form serves a call with this answer, by cached callsites that become the
  -- others: what the answer says was made of it, which the stack went through, and it was answered,
  -- dropped or refused exactly where it should be
  pub record Serves (call : Call) (f : Form) (kept : KeptCallsites) (x : S) (a : Answer)
      (made : List OutcomeAt) (after : KeptCallsites) (y : S) : Type 0 where
    pub says : OutcomesOf call a (registry x).store (map (λ m. m.outcome) made)
    pub goes : FoldsTo (Makes registry with_registry has_form stepped reloaded) x made y
    pub answers : AnswersWith call kept f (registry x) a after

  -- a stack of this form serves a call with this answer, whatever was made of it
  abbrev pub IsServed : Call → Form → KeptCallsites → S → Answer → KeptCallsites → S → Type 0
  IsServed call f kept x a after y =
      (made : List OutcomeAt) × Serves call f kept x a made after y

  -- one request is served as the call that it asks for; where it names no span, it is dropped and
  -- nothing changes
  abbrev pub ServesAsked : Option Call → KeptCallsites → S → Answer → List OutcomeAt → KeptCallsites
      → S → Type 0
  ServesAsked None kept x a made after y =
      (a ≡ answer.Dropped) × (made ≡ []) × (after ≡ kept) × (y ≡ x)
  ServesAsked (Some call) kept x a made after y =
      (f : Form) × IsReady f x × Serves call f kept x a made after y

  -- a list of requests is served, one after another, given the answers so far
  abbrev pub Run : List Answer → List Request → List Answer → List (List OutcomeAt)
      → KeptCallsites → S → KeptCallsites → S → Type 0
  Run past [] [] [] kept x after y = (after ≡ kept) × (y ≡ x)
  Run past (r ∷ rs) (a ∷ answers) (ms ∷ made) kept x after y =
      (k : KeptCallsites) × (z : S) × ServesAsked (call_of past r) kept x a ms k z
      × Run (past ++ (a ∷ [])) rs answers made k z after y
  Run past rs answers made kept x after y = ⊥

  -- a dispatcher serves a list of requests with these answers
  pub record Served (hears : HearSteps S) (acts_at : ActsAt S) (requests : List Request)
      (answers : List Answer) (old new : Dispatch S) : Type 0 where
    -- what was made of each request, on any lanes
    pub made : List (List OutcomeAt)
    -- What was made is what the answers say, and each request is answered, dropped or refused
    -- exactly where it should be, by what is cached then; no dropped one would have reached any
    -- layer, and no refused one did.
    pub run : Run [] requests answers made (kept_by old) (stack_of old) (kept_by new) (stack_of new)
    -- Each layer is notified, in order, of exactly the made requests that its own path's filters
    -- pass when asked afresh.
    pub each : (position : Position)
        → hears (stack_of old) position (passed_at position (flat made)) (stack_of new)
    -- Under plain filters, each layer is notified of what it would be notified of if it stood
    -- alone, with no other layer or filter beside them.
    pub alone : (position : Position) (cs : Conducts) → acts_at (stack_of old) position cs
        → Alone cs (registry (stack_of old)).store (map (λ m. m.outcome) (flat made))
        (passed_at position (flat made))
    -- No span closes twice.
    pub once : StandOnce (flat_map (λ m. closed_by m.outcome) (flat made))
    -- A layer that is notified of a span can read it in its own context, even one that closes.
    pub shown : (position : Position) → AllByRecursion ShowsItsSpan (passed_at position (flat made))
