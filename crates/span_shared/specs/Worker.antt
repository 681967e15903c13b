-- What a worker of a shared dispatcher is, and what is said of its calls.
use Rattle.std.specs.Prelude.{◌≡◌, ℕ, ◌+◌, List, Option, None, Some, slice_get}
use Rattle.std.specs.List.{sum_by}
use Rattle.span_core.specs.declared.{level.LevelFilter.LevelFilter, span.Lane.Lane}
use Rattle.span_dispatch.specs.Contract.{ShowsHint, ShowsKept, SubscriberOf}
use Rattle.span_dispatch.specs.{Recorder.lane_of, Serve.kept_by}
use Rattle.span_dispatch.specs.declared.dispatch.Dispatch.{Dispatch}
use Rattle.span_shared.specs.Journal.{Entry, KeepsJournal, LoggedState}

-- a worker's lane, the hint that it was made with, and how many of its calls were accepted
pub record WorkerState : Type 0 where
  pub lane : Lane
  pub hint : Option LevelFilter
  pub calls : ℕ

-- a worker as it begins
abbrev pub new_worker : Lane → Option LevelFilter → WorkerState
new_worker lane hint = record { lane = lane; hint = hint; calls = 0 }

-- the worker after one more accepted call
abbrev pub called : WorkerState → WorkerState
called w = record w { calls = w.calls + 1 }

-- how many calls of these workers were accepted
abbrev pub calls_of : List WorkerState → ℕ
calls_of workers = sum_by (λ w. w.calls) workers

-- these workers are a crew as it begins: each on the lane of its place, with this hint
abbrev pub AreCrew : Option LevelFilter → List WorkerState → Type 0
AreCrew hint workers =
    (i : ℕ) (w : WorkerState) → slice_get workers i ≡ Some w → w ≡ new_worker (lane_of i) hint

-- these workers are a crew as it begins, with the hint of this dispatcher
pub record AreCrewOf {S : Type 0} (s : SubscriberOf S) (d : Dispatch S)
    (workers : List WorkerState) : Type 0 where
  pub hint : Option LevelFilter
  pub none : kept_by d ≡ None → hint ≡ None
  pub kept : ShowsKept d hint
  pub shown : ShowsHint s d hint
  pub each : AreCrew hint workers

module _ {S : Type 0} (s : SubscriberOf S) where
  -- this holds of the journal of some logged dispatcher, as one is between calls
  abbrev pub SomeJournal : (List Entry → Type 0) → Type 0
  SomeJournal holds =
      (d : Dispatch S) × (journal : List Entry)
      × KeepsJournal s.registry s.usable d journal × holds journal

  -- this holds between some logged dispatcher, as one is between calls, and what its call leaves
  abbrev pub SomeLogged : (LoggedState (Dispatch S) → LoggedState (Dispatch S) → Type 0) → Type 0
  SomeLogged holds =
      (old : LoggedState (Dispatch S)) × (new : LoggedState (Dispatch S))
      × KeepsJournal s.registry s.usable old.dispatch old.journal × holds old new
