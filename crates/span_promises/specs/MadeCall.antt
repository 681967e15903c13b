-- Calls that something was made of, and what they make by themselves. Nothing here looks at a stack
-- or at a layer, nor, but for `AloneOf`, at more of a filter than its number.
use Rattle.std.specs.Prelude.{◌≡◌, Bool, true, false, List, [], ◌∷◌, ◌++◌, if◌then◌else◌, Option, Some, None}
use Rattle.std.specs.List.{FoldsTo}
use Rattle.span_core.specs.Filters.{FilterSet}
use Rattle.span_core.specs.declared.span.Id.{Id}
use Rattle.span_core.specs.declared.span.Lane.{Lane}
use Rattle.span_dispatch.specs.Alone.{Alone, form_of_path}
use Rattle.span_dispatch.specs.Call.{OutcomesOf, DropsHandle, LeavesSpan}
use Rattle.span_dispatch.specs.Outcome.{HandleAdded, Reloaded, Noticed, Outcome, Quiet, Steps}
use Rattle.span_dispatch.specs.Serve.{call_of}
use Rattle.span_dispatch.specs.declared.call.Call.TheVariants.{AddHandle, AskCurrent, DropHandle, Enter, Exit, Follow, OpenSpan, Probe, RecordValues, SendEvent, Reload}
use Rattle.span_dispatch.specs.declared.call.Call.{Call}
use Rattle.span_dispatch.specs.declared.request.Answer.TheVariants as answer
use Rattle.span_dispatch.specs.declared.request.Answer.{Answer}
use Rattle.span_dispatch.specs.declared.request.Request.{Request}
use Rattle.span_store.specs.Store.{Store}
use Rattle.span_registry.specs.Behaviour.{OnEnter, OnEvent, OnFollows, OnNewSpan, OnRecord}
use Rattle.span_registry.specs.Conducts.{Conducts}
use Rattle.span_registry.specs.Position.{Heard}

-- what comes of a call, by its answer alone: nothing; no such answer; this outcome; or what a store
-- says of a lane that leaves a span, or of a handle that is dropped
pub data Effect : Type 0 where
  NoEffect : Effect
  NoAnswer : Effect
  OneOutcome : Outcome → Effect
  OfExit : Lane → Id → Effect
  OfDrop : Lane → Id → Bool → Effect

-- what comes of a call with this answer: nothing of what was dropped or refused, of probes and of
-- looks at the current span
abbrev pub effect_of : Call → Answer → Effect
effect_of (OpenSpan lane a) (answer.Made id) = OneOutcome (Noticed lane (OnNewSpan a id))
effect_of (SendEvent lane e) answer.Done = OneOutcome (Noticed lane (OnEvent e))
effect_of (Enter lane id) answer.Done = OneOutcome (Noticed lane (OnEnter id))
effect_of (Exit lane id) answer.Done = OfExit lane id
effect_of (RecordValues lane id values) answer.Done = OneOutcome (Noticed lane (OnRecord id values))
effect_of (Follow lane id other) answer.Done = OneOutcome (Noticed lane (OnFollows id other))
effect_of (AddHandle lane id) answer.Done = OneOutcome (Quiet (HandleAdded id))
effect_of (DropHandle lane id) (answer.Yes closes) = OfDrop lane id closes
effect_of (Reload n s) answer.Done = OneOutcome (Reloaded n s)
effect_of (Probe lane m) (answer.Yes said) = NoEffect
effect_of (AskCurrent lane) (answer.Current o) = NoEffect
effect_of call answer.Dropped = NoEffect
effect_of call (answer.Refused e) = NoEffect
effect_of call a = NoAnswer

-- an effect has these outcomes on a store
abbrev pub HasOutcomes : Effect → Store → List Outcome → Type 0
HasOutcomes NoEffect s os = os ≡ []
HasOutcomes NoAnswer s os = ⊥
HasOutcomes (OneOutcome o) s os = os ≡ o ∷ []
HasOutcomes (OfExit lane id) s os = LeavesSpan lane id s os
HasOutcomes (OfDrop lane id closes) s os = DropsHandle lane id s closes os

-- whether filters of these numbers may go on by an outcome: a setting that another filter took is
-- none of theirs
abbrev pub concerns : FilterSet → Outcome → Bool
concerns numbers (Noticed lane e) = true
concerns numbers (Quiet c) = true
concerns numbers (Reloaded n l) = numbers n

-- whether an effect has outcomes by which filters of these numbers may go on
abbrev pub is_concern : FilterSet → Effect → Bool
is_concern numbers NoEffect = false
is_concern numbers NoAnswer = false
is_concern numbers (OneOutcome o) = concerns numbers o
is_concern numbers (OfExit lane id) = true
is_concern numbers (OfDrop lane id closes) = true

-- a call that something was made of, and how it was answered
abbrev pub MadeCall : Type 0
MadeCall = Call × Answer

-- a call that was asked for, with its answer, if something was made of it that concerns filters of
-- these numbers
abbrev pub made_call : FilterSet → Option Call → Answer → List MadeCall
made_call numbers None a = []
made_call numbers (Some call) a =
    if is_concern numbers (effect_of call a) then (call, a) ∷ [] else []

-- the made calls of a list of requests with these answers, given the answers before: each with its
-- answer, and its spans by their ids. Dropped and refused requests, probes, and other filters'
-- settings leave no trace in it.
abbrev pub made_calls : FilterSet → List Answer → List Request → List Answer → List MadeCall
made_calls numbers past (r ∷ rs) (a ∷ answers) =
    made_call numbers (call_of past r) a ++ made_calls numbers (past ++ (a ∷ [])) rs answers
made_calls numbers past rs answers = []

-- outcomes lead from one store to another, where no filter refuses anything
abbrev pub GoesThrough : Store → List Outcome → Store → Type 0
GoesThrough s os t = FoldsTo (λ u o v. Steps (form_of_path []) o u v) s os t

-- the outcomes of calls, one after another, from a store on
abbrev pub OutcomesFrom : Store → List MadeCall → List Outcome → Type 0
OutcomesFrom s [] os = os ≡ []
OutcomesFrom s (one ∷ calls) os =
    (us : List Outcome) × (t : Store) × (vs : List Outcome) × OutcomesOf one.0 one.1 s us
    × GoesThrough s us t × OutcomesFrom t calls vs × (os ≡ us ++ vs)

-- what a leaf is notified of, from calls on this store, as if it stood alone under filters of these
-- conducts
abbrev pub AloneOf : Conducts → Store → List MadeCall → Heard → Type 0
AloneOf cs s calls heard =
    (outcomes : List Outcome) × OutcomesFrom s calls outcomes × Alone cs s outcomes heard
