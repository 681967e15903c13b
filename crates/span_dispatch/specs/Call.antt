-- What a dispatcher is asked, and how it answers: which outcomes come of a call, and when it is
-- refused.
use Rattle.std.specs.Prelude.{◌≡◌, ◌<◌, ◌↔◌, ◌⊎◌, ⊤, ℕ, Bool, true, false, ◌||◌, IsTrue, List, [], ◌∷◌, map, Option, Some, None, Result, Ok, Err}
use Rattle.std.specs.Option.{option_map}
use Rattle.span_core.specs.Event.{event_metadata}
use Rattle.span_core.specs.Span.{asked_parent, current_span, id_of, metadata_of, number_of}
use Rattle.span_core.specs.declared.error.TraceError.{TheVariants.NotSettable, TraceError}
use Rattle.span_core.specs.declared.event.Event.{Event}
use Rattle.span_core.specs.declared.{filter.FilterMap.FilterMap, span.Id.Id, span.Lane.Lane}
use Rattle.span_core.specs.declared.span.{Attributes.Attributes, Current.Current, Parent.Parent}
use Rattle.span_dispatch.specs.Admission.{IsDecided, IsUnknown}
use Rattle.span_dispatch.specs.Cache.{KeptCallsites, no_callsite}
use Rattle.span_dispatch.specs.Outcome.{HandleAdded, HandleTaken, GoneLeft, Reloaded, Noticed, Outcome, Quiet}
use Rattle.span_dispatch.specs.declared.call.Call.TheVariants.{AddHandle, AskCurrent, DropHandle, Enter, Exit, Follow, OpenSpan, Probe, RecordValues, SendEvent, Reload}
use Rattle.span_dispatch.specs.declared.{call.Call.Call, request.Answer.Answer}
use Rattle.span_dispatch.specs.declared.request.Answer.TheVariants as answer
use Rattle.span_stacks.specs.Verdict.{vetoes, vetoes_event}
use Rattle.span_store.specs.Closes.{AreUnheld, Member}
use Rattle.span_store.specs.Step.{Drops, FindsParent, HasPlace, IsCurrent, Opens, RefusesClone, RefusesEnter, RefusesNew, RefusesRelease, RefusesUnlessOpen}
use Rattle.span_store.specs.Store.{IsHeld, IsOpen, RegistryState, Store, handles_of, take_handle}
use Rattle.span_registry.specs.Behaviour.{OnClose, OnEnter, OnEvent, OnExit, OnFollows, OnNewSpan, OnRecord}
use Rattle.span_registry.specs.{Form.Form, Reload.takes_setting}

-- whether a leaf with no filter round it refuses an event, by its metadata or the event itself
abbrev pub vetoes_whole : Form → Event → Store → Lane → Bool
vetoes_whole f e s lane = vetoes f (event_metadata e) s lane.0 || vetoes_event f e s lane.0

-- the registry has a place for a new span, and its parent, if it gets one, has room for a child
abbrev pub HasRoomFor : RegistryState → Lane → Parent → Type 0
HasRoomFor s lane asked = ((parent : Option ℕ) × FindsParent s lane asked parent) × HasPlace s

-- what comes of a lane leaving a span: a notice where the span is open, else a quiet change
pub record LeavesSpan (lane : Lane) (id : Id) (s : Store) (os : List Outcome) : Type 0 where
  pub there : IsOpen s.spans (number_of id) → os ≡ Noticed lane (OnExit id) ∷ []
  pub gone : ¬ (IsOpen s.spans (number_of id)) → os ≡ Quiet (GoneLeft lane id) ∷ []

-- what comes of dropping a handle: the handle is taken, and each span that nothing holds then
-- closes, children first; the answer is whether this span is among them
pub record DropsHandle (lane : Lane) (id : Id) (s : Store) (closes : Bool)
    (os : List Outcome) : Type 0 where
  pub closed : List ℕ
  pub exact : AreUnheld (take_handle s.spans (number_of id)) closed
  pub outcomes : os ≡ Quiet (HandleTaken id) ∷ map (λ x. Noticed lane (OnClose (id_of x))) closed
  pub itself : IsTrue closes ↔ Member (number_of id) closed

-- the outcomes of a call with this answer, on a store: none for what was dropped or refused, for
-- probes and for looks at the current span. No call has an answer of another kind of call, but that
-- all may be dropped or refused.
abbrev pub OutcomesOf : Call → Answer → Store → List Outcome → Type 0
OutcomesOf (OpenSpan lane a) (answer.Made id) s os = os ≡ Noticed lane (OnNewSpan a id) ∷ []
OutcomesOf (SendEvent lane e) answer.Done s os = os ≡ Noticed lane (OnEvent e) ∷ []
OutcomesOf (Enter lane id) answer.Done s os = os ≡ Noticed lane (OnEnter id) ∷ []
OutcomesOf (Exit lane id) answer.Done s os = LeavesSpan lane id s os
OutcomesOf (RecordValues lane id r) answer.Done s os = os ≡ Noticed lane (OnRecord id r) ∷ []
OutcomesOf (Follow lane id other) answer.Done s os = os ≡ Noticed lane (OnFollows id other) ∷ []
OutcomesOf (AddHandle lane id) answer.Done s os = os ≡ Quiet (HandleAdded id) ∷ []
OutcomesOf (DropHandle lane id) (answer.Yes closes) s os = DropsHandle lane id s closes os
OutcomesOf (Reload n setting) answer.Done s os = os ≡ Reloaded n setting ∷ []
OutcomesOf (Probe lane m) (answer.Yes said) s os = os ≡ []
OutcomesOf (AskCurrent lane) (answer.Current o) s os = os ≡ []
OutcomesOf call answer.Dropped s os = os ≡ []
OutcomesOf call (answer.Refused e) s os = os ≡ []
OutcomesOf call a s os = ⊥

-- how a call is answered that isn't decided by metadata: refused as the registry refuses it, or
-- since no filter with that number takes the setting, and never dropped; a handle is added where
-- there is room for one, and the current span is the lane's
abbrev pub AnswersOther : Call → Form → RegistryState → Answer → Type 0
AnswersOther (Enter lane id) f s (answer.Refused e) = RefusesEnter s lane id e
AnswersOther (RecordValues lane id values) f s (answer.Refused e) = RefusesUnlessOpen s id e
AnswersOther (Follow lane id other) f s (answer.Refused e) = RefusesUnlessOpen s id e
AnswersOther (AddHandle lane id) f s (answer.Refused e) = RefusesClone s id e
AnswersOther (DropHandle lane id) f s (answer.Refused e) = RefusesRelease s id e
AnswersOther (Reload n setting) f s (answer.Refused e) =
    (e ≡ NotSettable n) × (takes_setting f n setting ≡ false)
AnswersOther call f s (answer.Refused e) = ⊥
AnswersOther call f s answer.Dropped = ⊥
AnswersOther (AddHandle lane id) f s a = handles_of s.store.spans (number_of id) < s.limits.count
AnswersOther (AskCurrent l) f s (answer.Current o) = IsCurrent s.store l.0 (option_map number_of o)
AnswersOther call f s a = ⊤

-- how a stack of this form on this registry answers a call, with these callsites cached before it
-- and those after it
abbrev pub AnswersWith : Call → KeptCallsites → Form → RegistryState → Answer → KeptCallsites
    → Type 0
AnswersWith (OpenSpan lane a) kept f s (answer.Refused e) after =
    IsUnknown kept f (metadata_of a) e after
    ⊎ (IsDecided kept f s lane (metadata_of a) (vetoes f (metadata_of a) s.store lane.0) true after
    × RefusesNew s lane (asked_parent a) e)
AnswersWith (OpenSpan lane a) kept f s (answer.Made id) after =
    IsDecided kept f s lane (metadata_of a) (vetoes f (metadata_of a) s.store lane.0) true after
    × HasRoomFor s lane (asked_parent a)
AnswersWith (OpenSpan lane a) kept f s answer.Dropped after =
    IsDecided kept f s lane (metadata_of a) (vetoes f (metadata_of a) s.store lane.0) false after
AnswersWith (SendEvent lane e) kept f s (answer.Refused error) after =
    IsUnknown kept f (event_metadata e) error after
AnswersWith (SendEvent lane e) kept f s answer.Done after =
    IsDecided kept f s lane (event_metadata e) (vetoes_whole f e s.store lane) true after
AnswersWith (SendEvent lane e) kept f s answer.Dropped after =
    IsDecided kept f s lane (event_metadata e) (vetoes_whole f e s.store lane) false after
AnswersWith (Probe lane m) kept f s (answer.Refused e) after = IsUnknown kept f m e after
AnswersWith (Probe lane m) kept f s (answer.Yes said) after =
    IsDecided kept f s lane m (vetoes f m s.store lane.0) said after
AnswersWith (Reload n setting) kept f s answer.Done after =
    (after ≡ option_map (λ callsites. no_callsite) kept) × (takes_setting f n setting ≡ true)
AnswersWith call kept f s a after = (after ≡ kept) × AnswersOther call f s a

-- the lane that a call comes from: none for a call that reloads a filter
abbrev pub lane_of_call : Call → Option Lane
lane_of_call (OpenSpan lane attrs) = Some lane
lane_of_call (SendEvent lane e) = Some lane
lane_of_call (Enter lane id) = Some lane
lane_of_call (Exit lane id) = Some lane
lane_of_call (RecordValues lane id values) = Some lane
lane_of_call (Follow lane id other) = Some lane
lane_of_call (AddHandle lane id) = Some lane
lane_of_call (DropHandle lane id) = Some lane
lane_of_call (Probe lane m) = Some lane
lane_of_call (AskCurrent lane) = Some lane
lane_of_call (Reload n setting) = None

-- Below: what a call that isn't refused does to a registry, whatever the stack answers. Hooks may
-- write extensions after it.

-- the span is opened that these attributes ask for, with some verdict
abbrev pub OpensFor : Lane → Attributes → Id → RegistryState → RegistryState → Type 0
OpensFor lane attrs id s t =
    (v : FilterMap) × Opens lane
    (record { metadata = metadata_of attrs; parent = asked_parent attrs; verdict = v }) id s t

-- the span is open, and the registry is unchanged
abbrev pub FindsOpen : Id → RegistryState → RegistryState → Type 0
FindsOpen id s t = IsOpen s.store.spans (number_of id) × (t ≡ s)

-- a handle is taken, and all that closes by that is taken out; the answer is whether this span is
-- among it
abbrev pub DropsSpan : Id → Bool → RegistryState → RegistryState → Type 0
DropsSpan id closes s t =
    IsHeld s.store.spans (number_of id)
    × ((closed : List ℕ) × Drops s (number_of id) closed t
    × (IsTrue closes ↔ Member (number_of id) closed))

-- Below: what a call of a dispatcher gave, as an answer.

-- the answer for what a call of a new span gave
abbrev pub span_answer : Result (Option Id) TraceError → Answer
span_answer (Ok (Some id)) = answer.Made id
span_answer (Ok None) = answer.Dropped
span_answer (Err e) = answer.Refused e

-- the answer for what a call of an event gave
abbrev pub event_answer : Result Bool TraceError → Answer
event_answer (Ok true) = answer.Done
event_answer (Ok false) = answer.Dropped
event_answer (Err e) = answer.Refused e

-- the answer for what a call gave that gives nothing but a refusal
abbrev pub done_answer : {A : Type 0} → Result A TraceError → Answer
done_answer (Ok a) = answer.Done
done_answer (Err e) = answer.Refused e

-- the answer for what a call gave that gives a truth value
abbrev pub yes_answer : Result Bool TraceError → Answer
yes_answer (Ok said) = answer.Yes said
yes_answer (Err e) = answer.Refused e

-- the answer for the span that a lane was shown to be in
abbrev pub current_answer : Current → Answer
current_answer c = answer.Current (option_map (λ o. o.0) (current_span c))

-- the answer for a look at a lane's span that may be refused
abbrev pub look_answer : Result Current TraceError → Answer
look_answer (Ok c) = current_answer c
look_answer (Err e) = answer.Refused e
