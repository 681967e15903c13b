-- What the contract of each call of a logged dispatcher says: what the dispatcher promises of it,
-- and which entry it adds, where it isn't refused.
use Rattle.std.specs.Prelude.{◌≡◌, ◌⊎◌, Bool, Option, None, Some, Result, Ok, Err, IfErr, IfOk}
use Rattle.std.specs.{FinMap.get, Option.option_map}
use Rattle.span_core.specs.Event.{event_metadata, event_parent}
use Rattle.span_core.specs.Span.{asked_parent, current_span, metadata_of, number_of}
use Rattle.span_core.specs.declared.error.TraceError.{TheVariants.OutOfMemory, TraceError}
use Rattle.span_core.specs.declared.event.Event.{Event}
use Rattle.span_core.specs.declared.span.{Attributes.Attributes, Current.Current, Lane.Lane, Id.Id}
use Rattle.span_dispatch.specs.Call.{done_answer, event_answer, look_answer, span_answer, yes_answer}
use Rattle.span_dispatch.specs.Contract.{ClonesSpan, DropsOneHandle, EntersSpan, ExitsSpan, FollowsSpan, OpensSpan, Probes, RecordsValues, SendsEvent, ServesCurrent, ReloadsFilter, Shows, SubscriberOf, registry_of}
use Rattle.span_shared.specs.Journal.{Adds, Entry, LoggedState, Placed}
use Rattle.span_dispatch.specs.declared.call.Call.TheVariants.{AddHandle, AskCurrent, DropHandle, Enter, Exit, Follow, OpenSpan, Probe, RecordValues, SendEvent, Reload}
use Rattle.span_dispatch.specs.declared.call.Call.{Call}
use Rattle.span_dispatch.specs.declared.{dispatch.Dispatch.Dispatch, request.Answer.Answer}
use Rattle.span_shared.specs.declared.entry.EntryWith.TheVariants as entry
use Rattle.span_store.specs.Store.{Span}
use Rattle.span_targets.specs.Setting.{level_in}

-- an answer with its receipt, or why the call was refused
abbrev pub Answered : Type 0 → Type 0
Answered A = Result (A × Placed) TraceError

-- this holds between the dispatchers of two logged ones
abbrev pub On : {D : Type 0} → (D → D → Type 0) → LoggedState D → LoggedState D → Type 0
On holds old new = holds old.dispatch new.dispatch

-- the promise of a call that is never refused, as one of any result: what it says of a given value,
-- of the dispatcher before and of the one after
abbrev pub NeverRefused : {D A : Type 0} → (A → D → D → Type 0) → Result A TraceError → D → D
    → Type 0
NeverRefused serves (Ok a) old new = serves a old new
NeverRefused serves (Err e) old new = ⊥

-- the entry of a call, made of what the call gave, was appended to the journal, and the receipt is
-- of it
abbrev pub AddsEntry : {D A : Type 0} → (A → Entry) → A × Placed → LoggedState D → LoggedState D
    → Type 0
AddsEntry entry r old new = Adds (entry r.0) old.journal r.1 new.journal

-- a call is served as the dispatcher serves it, and its entry is appended. A refused call adds
-- none; it may be refused for want of memory for the journal, before the dispatcher is asked
pub record Logs {D A : Type 0} (serves : Result A TraceError → D → D → Type 0)
    (adds : A × Placed → LoggedState D → LoggedState D → Type 0) (result : Answered A)
    (old new : LoggedState D) : Type 0 where
  pub done : IfOk result (λ r. serves (Ok r.0) old.dispatch new.dispatch × adds r old new)
  pub refused : IfErr result
      (λ e. ((e ≡ OutOfMemory) × (new ≡ old))
      ⊎ (serves (Err e) old.dispatch new.dispatch × (new.journal ≡ old.journal)))

-- what a call gave, as an answer with the same receipt
abbrev pub answered : {A : Type 0} → (Result A TraceError → Answer) → Answered A → Answered Answer
answered answer_of (Ok r) = Ok (answer_of (Ok r.0), r.1)
answered answer_of (Err e) = Err e

-- a call was served and logged so, and this is what it gave, as an answer with the same receipt
abbrev pub LogsAs : {D A : Type 0} → (Result A TraceError → Answer)
    → (Result A TraceError → D → D → Type 0)
    → (A × Placed → LoggedState D → LoggedState D → Type 0) → Answered Answer → LoggedState D
    → LoggedState D → Type 0
LogsAs {D} {A} answer_of serves adds result old new =
    (given : Answered A) × (result ≡ answered answer_of given) × Logs serves adds given old new

-- the entry of an event, by whether it was made
abbrev pub event_entry : Lane → Event → Bool → Entry
event_entry lane e made = entry.Event lane (event_metadata e) (event_parent e) made

-- the entry of a current span that was shown
abbrev pub current_entry : Lane → Current → Entry
current_entry lane shown = entry.Current lane (option_map (λ o. o.0) (current_span shown))

module _ {S : Type 0} (s : SubscriberOf S) where
  -- the entry of a new span was appended: of one that was made, with the verdict that the store has
  -- of it, or of one that wasn't
  abbrev pub AddsNewSpan : Lane → Attributes → Option Id × Placed → LoggedState (Dispatch S)
      → LoggedState (Dispatch S) → Type 0
  AddsNewSpan lane attrs (None, receipt) old new =
      Adds (entry.Unmade lane (metadata_of attrs)) old.journal receipt new.journal
  AddsNewSpan lane attrs (Some id, receipt) old new =
      (kept : Span) × (get (registry_of s new.dispatch).store.spans (number_of id) ≡ Some kept)
      × Adds (entry.New lane (metadata_of attrs) (asked_parent attrs) kept.verdict id) old.journal
      receipt new.journal

  -- the current span is shown, and nothing changes
  abbrev pub ShowsSpan : Lane → Current → Dispatch S → Dispatch S → Type 0
  ShowsSpan lane shown old new =
      Shows s lane old shown × ServesCurrent s lane shown old × (new ≡ old)

  -- a call from this lane, whichever lane it names, is answered and logged as the call of its kind
  -- is
  abbrev pub LogsCall : Lane → Call → Answered Answer → LoggedState (Dispatch S)
      → LoggedState (Dispatch S) → Type 0
  LogsCall lane (OpenSpan l attrs) =
      LogsAs span_answer (OpensSpan s lane attrs) (AddsNewSpan lane attrs)
  LogsCall lane (SendEvent l e) =
      LogsAs event_answer (SendsEvent s lane e) (AddsEntry (event_entry lane e))
  LogsCall lane (Enter l id) =
      LogsAs done_answer (EntersSpan s lane id) (AddsEntry (λ u. entry.Enter lane id))
  LogsCall lane (Exit l id) =
      LogsAs {A = Unit {0}} done_answer (NeverRefused (λ u. ExitsSpan s lane id))
      (AddsEntry (λ u. entry.Exit lane id))
  LogsCall lane (RecordValues l id values) =
      LogsAs done_answer (RecordsValues s lane id values) (AddsEntry (λ u. entry.Record lane id))
  LogsCall lane (Follow l id other) =
      LogsAs done_answer (FollowsSpan s lane id other)
      (AddsEntry (λ u. entry.Follows lane id other))
  LogsCall lane (AddHandle l id) =
      LogsAs done_answer (ClonesSpan s lane id) (AddsEntry (λ u. entry.Clone lane id))
  LogsCall lane (DropHandle l id) =
      LogsAs yes_answer (DropsOneHandle s lane id) (AddsEntry (entry.Drop lane id))
  LogsCall lane (Probe l m) = LogsAs yes_answer (Probes s lane m) (AddsEntry (entry.Probe lane m))
  LogsCall lane (AskCurrent l) =
      LogsAs look_answer (NeverRefused (ShowsSpan lane)) (AddsEntry (current_entry lane))
  LogsCall lane (Reload n setting) =
      LogsAs {A = Unit {0}} done_answer (ReloadsFilter s n setting)
      (AddsEntry (λ u. entry.Reload lane n (level_in setting)))
