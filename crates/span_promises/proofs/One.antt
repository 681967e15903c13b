-- A call has one answer: by one case split over calls and two answers.
use Rattle.std.proofs.Common.{inl, inr, ◌⊎◌, ◌↔◌, ◌<◌, ◌≤◌, arith, ◌≡◌, ◌∙◌, ℕ, Bool, true, false, IsTrue, List, [], ◌∷◌, map, Option, Some, None, ap, refl}
use Rattle.std.proofs.Common.{subst, sym}
use Rattle.std.proofs.lemmas.Bool.{true≢false}
use Rattle.std.specs.List.{FoldsTo}
use Rattle.std.specs.Option.{option_map}
use Rattle.std.specs.Prelude.{IfSome, ⊤}
use Rattle.span_core.specs.Span.{asked_parent, id_of, metadata_of, number_of}
use Rattle.span_core.specs.declared.error.TraceError.TheVariants.{CallsiteMismatch, CountFull, NoHandle, OutOfMemory, TooManySpans, UnknownParent, UnknownSpan}
use Rattle.span_core.specs.declared.error.TraceError.{TraceError}
use Rattle.span_core.specs.declared.metadata.Metadata.{Metadata}
use Rattle.span_core.specs.declared.span.Attributes.{Attributes}
use Rattle.span_core.specs.declared.span.Id.{Id}
use Rattle.span_core.specs.declared.span.Lane.{Lane}
use Rattle.span_core.specs.declared.span.Parent.TheVariants.{Explicit}
use Rattle.span_core.specs.declared.span.Parent.{Parent}
use Rattle.span_dispatch.proofs.Acting.{one_parent}
use Rattle.span_dispatch.specs.Admission.{IsDecided, IsUnknown}
use Rattle.span_dispatch.specs.Cache.{Agrees, KeptCallsites, RefusesInterest}
use Rattle.span_dispatch.specs.Call.{OutcomesOf, AnswersWith, HasRoomFor}
use Rattle.span_dispatch.specs.Outcome.{HandleAdded, HandleTaken, Makes, Noticed, Outcome, OutcomeAt, Quiet, Steps}
use Rattle.span_dispatch.specs.Serve.{Serves}
use Rattle.span_dispatch.specs.declared.call.Call.{Call}
use Rattle.span_dispatch.specs.declared.call.Call.TheVariants.{AddHandle, AskCurrent, DropHandle, Enter, Exit, Follow, OpenSpan, Probe, RecordValues, SendEvent}
use Rattle.span_dispatch.specs.declared.call.Call.TheVariants.{Reload}
use Rattle.span_dispatch.specs.declared.request.Answer.TheVariants as answer
use Rattle.span_dispatch.specs.declared.request.Answer.{Answer}
use Rattle.span_stacks.specs.Verdict.{vetoes}
use Rattle.span_store.specs.Closes.{Closes, Member}
use Rattle.span_store.specs.Step.{FindsParent, IsCurrent, IsParentFor, RefusesClone, RefusesEnter, RefusesNew, RefusesRelease, RefusesUnlessOpen, entered_last}
use Rattle.span_store.specs.Store.{IsHeld, IsInStore, IsOpen, RegistryState, Spans, Store, child_count, handles_of}
use Rattle.span_registry.specs.Behaviour.{OnEnter, OnFollows, OnRecord}
use Rattle.span_registry.specs.Form.{Form}
use Rattle.span_registry.specs.Hooks.{StackSteps}
use Rattle.span_registry.specs.Reload.{ReloadSteps}
use Rattle.span_promises.specs.Answers.{AnswersAreOne, HadMemory, IsSameAnswer}

-- ---- why something is refused, want of memory aside

abbrev HadRoom : TraceError → Type 0
HadRoom e = HadMemory (answer.Refused e)

interest_why : (memory : KeptCallsites) (m : Metadata) (e : TraceError) → RefusesInterest memory m e → HadRoom e → (e ≡ CallsiteMismatch)
    × (Agrees memory m → ⊥)
interest_why (Some callsites) m CallsiteMismatch h k = (refl, λ agrees. h.2 (agrees h.0 h.1))
interest_why (Some callsites) m OutOfMemory h k = absurd k
interest_why (Some callsites) m other h k = absurd h
interest_why None m e h k = absurd h

enter_why : (s : RegistryState) (lane : Lane) (x : Id) (e : TraceError) → RefusesEnter s lane x e → HadRoom e → RefusesUnlessOpen s x e
enter_why s lane x e (inl h) k = h
enter_why s lane x e (inr h) k = absurd (subst HadRoom h.0 k)

-- one of two refusals, of which no call has both
abbrev EitherWhy : TraceError → TraceError → TraceError → Type 0 → Type 0 → Type 0
EitherWhy e first second P Q = ((e ≡ first) × P) ⊎ ((e ≡ second) × Q)

clone_why : (s : RegistryState) (x : Id) (e : TraceError) → RefusesClone s x e
    → EitherWhy e (UnknownSpan x) (CountFull x) (IsOpen s.store.spans (number_of x) → ⊥)
    (IsOpen s.store.spans (number_of x) × (s.limits.count ≤ handles_of s.store.spans (number_of x)))
clone_why s x e (inl h) = inl h
clone_why s x e (inr h) = inr (h.0, (h.1, h.2))

release_why : (s : RegistryState) (x : Id) (e : TraceError) → RefusesRelease s x e
    → EitherWhy e (UnknownSpan x) (NoHandle x) (IsOpen s.store.spans (number_of x) → ⊥)
    (IsOpen s.store.spans (number_of x) × (IsHeld s.store.spans (number_of x) → ⊥))
release_why s x e (inl h) = inl h
release_why s x e (inr h) = inr (h.0, (h.1, h.2))

-- where they exclude each other, they are one
one_why : {P Q : Type 0} (d e first second : TraceError) → (P → Q → ⊥) → EitherWhy d first second P Q → EitherWhy e first second P Q → d ≡ e
one_why d e first second never (inl h) (inl k) = h.0 ∙ sym k.0
one_why d e first second never (inl h) (inr k) = absurd (never h.1 k.1)
one_why d e first second never (inr h) (inl k) = absurd (never k.1 h.1)
one_why d e first second never (inr h) (inr k) = h.0 ∙ sym k.0

-- ---- metadata

-- what is asked by metadata is decided once, and what is decided isn't refused for its interest
decided_once : {memory after later : KeptCallsites} {f : Form} {s : RegistryState} {lane : Lane} {m : Metadata} {vetoed said other : Bool}
    → IsDecided memory f s lane m vetoed said after → IsDecided memory f s lane m vetoed other later → said ≡ other
decided_once h k = h.wanted ∙ sym k.wanted

wanted_or_not : {memory after later : KeptCallsites} {f : Form} {s : RegistryState} {lane : Lane} {m : Metadata} {vetoed : Bool}
    → IsDecided memory f s lane m vetoed true after → IsDecided memory f s lane m vetoed false later → ⊥
wanted_or_not h k = true≢false (decided_once h k)

unknown_or_decided : {memory after later : KeptCallsites} {f : Form} {s : RegistryState} {lane : Lane} {m : Metadata} {vetoed said : Bool} {e : TraceError}
    → HadRoom e
    → IsUnknown memory f m e after → IsDecided memory f s lane m vetoed said later → ⊥
unknown_or_decided {memory = memory} {m = m} {e = e} room h k = (interest_why memory m e h.refused room).1 (k.agrees h.hint)

unknown_once : {memory after later : KeptCallsites} {f : Form} {m : Metadata} {d e : TraceError} → HadRoom d → HadRoom e → IsUnknown memory f m d after
    → IsUnknown memory f m e later → d ≡ e
unknown_once {memory = memory} {m = m} {d = d} {e = e} room more h k =
    (interest_why memory m d h.refused room).0 ∙ sym (interest_why memory m e k.refused more).0

-- ---- new spans

entered_once : (o : Option ℕ) (P : ℕ → Type 0) (x : ℕ) → o ≡ Some x → P x → IfSome o (λ y. P y → ⊥) → ⊥
entered_once None P x e p n = let no : ⊥ = cc in no
entered_once (Some y) P x e p n = let same : y ≡ x = cc in n (subst P (sym same) p)

same_id : (x y : Id) → number_of x ≡ number_of y → x ≡ y
same_id x y e = ap id_of e

-- a parent that is found has room, and is open where it is named
abbrev Finds : RegistryState → Lane → Parent → Type 0
Finds s lane p = (parent : Option ℕ) × FindsParent s lane p parent

named_open : (s : RegistryState) (lane : Lane) (p : Parent) (x : Id) → p ≡ Explicit x → Finds s lane p → IsOpen s.store.spans (number_of x)
named_open s lane p x e h = (subst (λ q. IsParentFor s.store lane q h.0) e h.1.chosen).1

has_room : (s : RegistryState) (o : Option ℕ) (x : ℕ) → o ≡ Some x → IfSome o (λ p. child_count s.store.spans p < s.limits.count)
    → child_count s.store.spans x < s.limits.count
has_room s None x e h = let no : ⊥ = cc in absurd no
has_room s (Some y) x e h = let same : y ≡ x = cc in subst (λ p. child_count s.store.spans p < s.limits.count) same h

full_or_found : (s : RegistryState) (lane : Lane) (p : Parent) (x : Id) → IsParentFor s.store lane p (Some (number_of x))
    → s.limits.count ≤ child_count s.store.spans (number_of x) → Finds s lane p → ⊥
full_or_found s lane p x chosen full h =
    let room = has_room s h.0 (number_of x) (one_parent s.store lane p h.0 (Some (number_of x)) h.1.chosen chosen) h.1.room in
    omega (arith, full, room)

new_or_refused : (s : RegistryState) (lane : Lane) (p : Parent) (e : TraceError) → HadRoom e → HasRoomFor s lane p → RefusesNew s lane p e → ⊥
new_or_refused s lane p (UnknownParent x) room h k = k.1 (named_open s lane p x k.0 h.0)
new_or_refused s lane p (CountFull x) room h k = full_or_found s lane p x k.0 k.1 h.0
new_or_refused s lane p TooManySpans room h k = k.1 h.1
new_or_refused s lane p OutOfMemory room h k = absurd room
new_or_refused s lane p other room h k = absurd k

-- a named parent that isn't open is no chosen one
named_or_chosen : (s : Store) (lane : Lane) (p : Parent) (x y : Id) → p ≡ Explicit x → (IsOpen s.spans (number_of x) → ⊥)
    → IsParentFor s lane p (Some (number_of y)) → ⊥
named_or_chosen s lane p x y e shut h = shut (subst (λ q. IsParentFor s lane q (Some (number_of y))) e h).1

new_once : (s : RegistryState) (lane : Lane) (p : Parent) (d e : TraceError) → HadRoom d → HadRoom e → RefusesNew s lane p d → RefusesNew s lane p e → d ≡ e
new_once s lane p (UnknownParent x) (UnknownParent y) room more h k = let same : Explicit x ≡ Explicit y = sym h.0 ∙ k.0 in cc
new_once s lane p (UnknownParent x) (CountFull y) room more h k = absurd (named_or_chosen s.store lane p x y h.0 h.1 k.0)
new_once s lane p (UnknownParent x) TooManySpans room more h k = absurd (h.1 (named_open s lane p x h.0 k.0))
new_once s lane p (UnknownParent x) OutOfMemory room more h k = absurd more
new_once s lane p (UnknownParent x) other room more h k = absurd k
new_once s lane p (CountFull x) (UnknownParent y) room more h k = absurd (named_or_chosen s.store lane p y x k.0 k.1 h.0)
new_once s lane p (CountFull x) (CountFull y) room more h k =
    let same : Some (number_of x) ≡ Some (number_of y) = one_parent s.store lane p (Some (number_of x)) (Some (number_of y)) h.0 k.0 in
    let number : number_of x ≡ number_of y = cc in
    ap (λ z. CountFull z) (same_id x y number)
new_once s lane p (CountFull x) TooManySpans room more h k = absurd (full_or_found s lane p x h.0 h.1 k.0)
new_once s lane p (CountFull x) OutOfMemory room more h k = absurd more
new_once s lane p (CountFull x) other room more h k = absurd k
new_once s lane p TooManySpans (UnknownParent y) room more h k = absurd (k.1 (named_open s lane p y k.0 h.0))
new_once s lane p TooManySpans (CountFull y) room more h k = absurd (full_or_found s lane p y k.0 k.1 h.0)
new_once s lane p TooManySpans TooManySpans room more h k = refl
new_once s lane p TooManySpans OutOfMemory room more h k = absurd more
new_once s lane p TooManySpans other room more h k = absurd k
new_once s lane p OutOfMemory e room more h k = absurd room
new_once s lane p other e room more h k = absurd h

-- ---- the span that a lane is in

current_once : (s : Store) (lane : ℕ) (a b : Option ℕ) → IsCurrent s lane a → IsCurrent s lane b → a ≡ b
current_once s lane None None h k = refl
current_once s lane (Some x) (Some y) h k = sym h.0 ∙ k.0
current_once s lane None (Some y) h k = absurd (entered_once (entered_last s lane) (IsInStore s.spans) y k.0 k.1 h)
current_once s lane (Some x) None h k = absurd (entered_once (entered_last s lane) (IsInStore s.spans) x h.0 h.1 k)

same_current : (a b : Option Id) → option_map number_of a ≡ option_map number_of b → a ≡ b
same_current None None e = refl
same_current None (Some y) e = let no : ⊥ = cc in absurd no
same_current (Some x) None e = let no : ⊥ = cc in absurd no
same_current (Some x) (Some y) e = let number : number_of x ≡ number_of y = cc in ap (λ z. Some z) (same_id x y number)

-- ---- an answer is of its call's kind

abbrev IsKind : Call → Answer → Type 0
IsKind (OpenSpan lane attrs) (answer.Made id) = ⊤
IsKind (SendEvent lane e) answer.Done = ⊤
IsKind (Enter lane id) answer.Done = ⊤
IsKind (Exit lane id) answer.Done = ⊤
IsKind (RecordValues lane id values) answer.Done = ⊤
IsKind (Follow lane id other) answer.Done = ⊤
IsKind (AddHandle lane id) answer.Done = ⊤
IsKind (DropHandle lane id) (answer.Yes closes) = ⊤
IsKind (Reload n l) answer.Done = ⊤
IsKind (Probe lane m) (answer.Yes said) = ⊤
IsKind (AskCurrent lane) (answer.Current o) = ⊤
IsKind call answer.Dropped = ⊤
IsKind call (answer.Refused e) = ⊤
IsKind call a = ⊥

kind_of : (call : Call) (a : Answer) (s : Store) (os : List Outcome) → OutcomesOf call a s os → IsKind call a
kind_of (OpenSpan lane attrs) (answer.Made id) s os h = tt
kind_of (SendEvent lane e) answer.Done s os h = tt
kind_of (Enter lane id) answer.Done s os h = tt
kind_of (Exit lane id) answer.Done s os h = tt
kind_of (RecordValues lane id values) answer.Done s os h = tt
kind_of (Follow lane id other) answer.Done s os h = tt
kind_of (AddHandle lane id) answer.Done s os h = tt
kind_of (DropHandle lane id) (answer.Yes closes) s os h = tt
kind_of (Reload n l) answer.Done s os h = tt
kind_of (Probe lane m) (answer.Yes said) s os h = tt
kind_of (AskCurrent lane) (answer.Current o) s os h = tt
kind_of call answer.Dropped s os h = tt
kind_of call (answer.Refused e) s os h = tt
kind_of call a s os h = absurd h

-- ---- what an answer says of the store besides: its outcomes were steps

abbrev Facts : Call → Answer → RegistryState → Type 0
Facts (Enter lane id) answer.Done s = IsOpen s.store.spans (number_of id)
Facts (RecordValues lane id values) answer.Done s = IsOpen s.store.spans (number_of id)
Facts (Follow lane id other) answer.Done s = IsOpen s.store.spans (number_of id)
Facts (AddHandle lane id) answer.Done s = IsOpen s.store.spans (number_of id)
Facts (DropHandle lane id) (answer.Yes closes) s = IsHeld s.store.spans (number_of id)
    × ((closed : List ℕ) × Closes s.store.spans (number_of id) closed × (IsTrue closes ↔ Member (number_of id) closed))
Facts call a s = ⊤

module _ {S : Type 0} (registry : S → RegistryState) (with_registry : S → RegistryState → S) (has_form : S → Form → Type 0) (stepped : StackSteps S)
    (reloaded : ReloadSteps S) where
  first_step : (x : S) (made : List OutcomeAt) (y : S) (o : Outcome) (os : List Outcome) → map (λ m. m.outcome) made ≡ o ∷ os
      → FoldsTo (Makes registry with_registry has_form stepped reloaded) x made y → (f : Form) × (t : Store) × Steps f o (registry x).store t
  first_step x [] y o os e h = let no : ⊥ = cc in absurd no
  first_step x (m ∷ made) y o os e h =
      let same : m.outcome ≡ o = cc in
      (m.form, m.after, subst (λ s. Steps m.form o s m.after) h.1.before (subst (λ p. Steps m.form p m.before m.after) same h.1.steps))

  pub facts_of : (call : Call) (f : Form) (kept : KeptCallsites) (x : S) (a : Answer) (made : List OutcomeAt) (after : KeptCallsites) (y : S)
      → Serves registry with_registry has_form stepped reloaded call f kept x a made after y → Facts call a (registry x)
  facts_of (Enter lane id) f kept x answer.Done made after y h = (first_step x made y (Noticed lane (OnEnter id)) [] h.says h.goes).2.0
  facts_of (RecordValues lane id values) f kept x answer.Done made after y h = (first_step x made y (Noticed lane (OnRecord id values)) [] h.says h.goes).2.0
  facts_of (Follow lane id other) f kept x answer.Done made after y h = (first_step x made y (Noticed lane (OnFollows id other)) [] h.says h.goes).2.0
  facts_of (AddHandle lane id) f kept x answer.Done made after y h = (first_step x made y (Quiet (HandleAdded id)) [] h.says h.goes).2.0
  facts_of (DropHandle lane id) f kept x (answer.Yes closes) made after y h =
      ((first_step x made y (Quiet (HandleTaken id)) _ h.says.outcomes h.goes).2.0, (h.says.closed, h.says.exact, h.says.itself))
  facts_of (OpenSpan lane attrs) f kept x a made after y h = tt
  facts_of (SendEvent lane e) f kept x a made after y h = tt
  facts_of (Enter lane id) f kept x other made after y h = tt
  facts_of (Exit lane id) f kept x a made after y h = tt
  facts_of (RecordValues lane id values) f kept x other made after y h = tt
  facts_of (Follow lane id second) f kept x other made after y h = tt
  facts_of (AddHandle lane id) f kept x other made after y h = tt
  facts_of (DropHandle lane id) f kept x other made after y h = tt
  facts_of (Probe lane m) f kept x a made after y h = tt
  facts_of (AskCurrent lane) f kept x a made after y h = tt
  facts_of (Reload n l) f kept x a made after y h = tt

-- ---- one answer

same_truth : (a b : Bool) (P : Type 0) → IsTrue a ↔ P → IsTrue b ↔ P → a ≡ b
same_truth true true P h k = refl
same_truth false false P h k = refl
same_truth true false P h k = sym (k.1 (h.0 refl))
same_truth false true P h k = h.1 (k.0 refl)

module _ (once : (m : Spans) (x : ℕ) (xs ys : List ℕ) → Closes m x xs → Closes m x ys → xs ≡ ys) (f : Form) (memory : KeptCallsites) (s : RegistryState) where
  -- what is held is open
  held_open : (x : ℕ) → IsHeld s.store.spans x → IsOpen s.store.spans x
  held_open x h = (h.0, h.1, inl h.2)

  -- a new span
  abbrev WhyNot : Lane → Attributes → TraceError → KeptCallsites → Type 0
  WhyNot lane attrs e after = AnswersWith (OpenSpan lane attrs) memory f s (answer.Refused e) after

  abbrev SpanDecided : Lane → Attributes → Bool → KeptCallsites → Type 0
  SpanDecided lane attrs said after = IsDecided memory f s lane (metadata_of attrs) (vetoes f (metadata_of attrs) s.store lane.0) said after

  made_or_refused : (lane : Lane) (attrs : Attributes) (e : TraceError) (after later : KeptCallsites)
      → HadRoom e → SpanDecided lane attrs true after × HasRoomFor s lane (asked_parent attrs)
      → WhyNot lane attrs e later → ⊥
  made_or_refused lane attrs e after later room h (inl k) = unknown_or_decided room k h.0
  made_or_refused lane attrs e after later room h (inr k) = new_or_refused s lane (asked_parent attrs) e room h.1 k.1

  dropped_or_refused : (lane : Lane) (attrs : Attributes) (e : TraceError) (after later : KeptCallsites)
      → HadRoom e → SpanDecided lane attrs false after → WhyNot lane attrs e later → ⊥
  dropped_or_refused lane attrs e after later room h (inl k) = unknown_or_decided room k h
  dropped_or_refused lane attrs e after later room h (inr k) = wanted_or_not k.0 h

  refused_once : (lane : Lane) (attrs : Attributes) (d e : TraceError) (after later : KeptCallsites)
      → HadRoom d → HadRoom e → WhyNot lane attrs d after → WhyNot lane attrs e later → d ≡ e
  refused_once lane attrs d e after later room more (inl h) (inl k) = unknown_once room more h k
  refused_once lane attrs d e after later room more (inl h) (inr k) = absurd (unknown_or_decided room h k.0)
  refused_once lane attrs d e after later room more (inr h) (inl k) = absurd (unknown_or_decided more k h.0)
  refused_once lane attrs d e after later room more (inr h) (inr k) = new_once s lane (asked_parent attrs) d e room more h.1 k.1

  -- a handle more, or less
  added_or_refused : (id : Id) (e : TraceError) → handles_of s.store.spans (number_of id) < s.limits.count → IsOpen s.store.spans (number_of id)
      → RefusesClone s id e → ⊥
  added_or_refused id e room there k = elim (clone_why s id e k) [
    | inl shut ↦ shut.1 there
    | inr full ↦ let more = full.1.1 in omega (arith, room, more)
  ]

  dropped_or_held : (id : Id) (e : TraceError) → IsHeld s.store.spans (number_of id) → RefusesRelease s id e → ⊥
  dropped_or_held id e held k = elim (release_why s id e k) [
    | inl shut ↦ shut.1 (held_open (number_of id) held)
    | inr none ↦ none.1.1 held
  ]

  abbrev ClosesBy : Id → Bool → Type 0
  ClosesBy id closes = (closed : List ℕ) × Closes s.store.spans (number_of id) closed × (IsTrue closes ↔ Member (number_of id) closed)

  same_drop : (id : Id) (i j : Bool) → ClosesBy id i → ClosesBy id j → i ≡ j
  same_drop id i j h k =
      let same : h.0 ≡ k.0 = once s.store.spans (number_of id) h.0 k.0 h.1 k.1 in
      same_truth i j (Member (number_of id) k.0) (subst (λ xs. IsTrue i ↔ Member (number_of id) xs) same h.2) k.2

  pub one : (call : Call) (a b : Answer) (c d : KeptCallsites)
      → HadMemory a → HadMemory b → IsKind call a → IsKind call b → AnswersWith call memory f s a c → Facts call a s → AnswersWith call memory f s b d
      → Facts call b s → IsSameAnswer a b
  one (OpenSpan lane attrs) (answer.Made x) (answer.Made y) c d u v i j h p k q = tt
  one (OpenSpan lane attrs) (answer.Made x) answer.Dropped c d u v i j h p k q = absurd (wanted_or_not h.0 k)
  one (OpenSpan lane attrs) (answer.Made x) (answer.Refused e) c d u v i j h p k q = absurd (made_or_refused lane attrs e c d v h k)
  one (OpenSpan lane attrs) (answer.Made x) other c d u v i j h p k q = absurd j
  one (OpenSpan lane attrs) answer.Dropped (answer.Made y) c d u v i j h p k q = absurd (wanted_or_not k.0 h)
  one (OpenSpan lane attrs) answer.Dropped answer.Dropped c d u v i j h p k q = refl
  one (OpenSpan lane attrs) answer.Dropped (answer.Refused e) c d u v i j h p k q = absurd (dropped_or_refused lane attrs e c d v h k)
  one (OpenSpan lane attrs) answer.Dropped other c d u v i j h p k q = absurd j
  one (OpenSpan lane attrs) (answer.Refused x) (answer.Made y) c d u v i j h p k q = absurd (made_or_refused lane attrs x d c u k h)
  one (OpenSpan lane attrs) (answer.Refused x) answer.Dropped c d u v i j h p k q = absurd (dropped_or_refused lane attrs x d c u k h)
  one (OpenSpan lane attrs) (answer.Refused x) (answer.Refused e) c d u v i j h p k q = ap (λ z. answer.Refused z) (refused_once lane attrs x e c d u v h k)
  one (OpenSpan lane attrs) (answer.Refused x) other c d u v i j h p k q = absurd j
  one (SendEvent lane event) answer.Done answer.Done c d u v i j h p k q = refl
  one (SendEvent lane event) answer.Done answer.Dropped c d u v i j h p k q = absurd (wanted_or_not h k)
  one (SendEvent lane event) answer.Done (answer.Refused e) c d u v i j h p k q = absurd (unknown_or_decided v k h)
  one (SendEvent lane event) answer.Done other c d u v i j h p k q = absurd j
  one (SendEvent lane event) answer.Dropped answer.Done c d u v i j h p k q = absurd (wanted_or_not k h)
  one (SendEvent lane event) answer.Dropped answer.Dropped c d u v i j h p k q = refl
  one (SendEvent lane event) answer.Dropped (answer.Refused e) c d u v i j h p k q = absurd (unknown_or_decided v k h)
  one (SendEvent lane event) answer.Dropped other c d u v i j h p k q = absurd j
  one (SendEvent lane event) (answer.Refused x) answer.Done c d u v i j h p k q = absurd (unknown_or_decided u h k)
  one (SendEvent lane event) (answer.Refused x) answer.Dropped c d u v i j h p k q = absurd (unknown_or_decided u h k)
  one (SendEvent lane event) (answer.Refused x) (answer.Refused e) c d u v i j h p k q = ap (λ z. answer.Refused z) (unknown_once u v h k)
  one (SendEvent lane event) (answer.Refused x) other c d u v i j h p k q = absurd j
  one (Probe lane m) (answer.Yes true) (answer.Yes true) c d u v i j h p k q = refl
  one (Probe lane m) (answer.Yes true) (answer.Yes false) c d u v i j h p k q = absurd (wanted_or_not h k)
  one (Probe lane m) (answer.Yes true) (answer.Refused e) c d u v i j h p k q = absurd (unknown_or_decided v k h)
  one (Probe lane m) (answer.Yes true) answer.Dropped c d u v i j h p k q = absurd k.1
  one (Probe lane m) (answer.Yes true) other c d u v i j h p k q = absurd j
  one (Probe lane m) (answer.Yes false) (answer.Yes true) c d u v i j h p k q = absurd (wanted_or_not k h)
  one (Probe lane m) (answer.Yes false) (answer.Yes false) c d u v i j h p k q = refl
  one (Probe lane m) (answer.Yes false) (answer.Refused e) c d u v i j h p k q = absurd (unknown_or_decided v k h)
  one (Probe lane m) (answer.Yes false) answer.Dropped c d u v i j h p k q = absurd k.1
  one (Probe lane m) (answer.Yes false) other c d u v i j h p k q = absurd j
  one (Probe lane m) (answer.Refused x) (answer.Yes true) c d u v i j h p k q = absurd (unknown_or_decided u h k)
  one (Probe lane m) (answer.Refused x) (answer.Yes false) c d u v i j h p k q = absurd (unknown_or_decided u h k)
  one (Probe lane m) (answer.Refused x) (answer.Refused e) c d u v i j h p k q = ap (λ z. answer.Refused z) (unknown_once u v h k)
  one (Probe lane m) (answer.Refused x) answer.Dropped c d u v i j h p k q = absurd k.1
  one (Probe lane m) (answer.Refused x) other c d u v i j h p k q = absurd j
  one (Probe lane m) answer.Dropped other c d u v i j h p k q = absurd h.1
  one (Enter lane id) answer.Done answer.Done c d u v i j h p k q = refl
  one (Enter lane id) answer.Done (answer.Refused e) c d u v i j h p k q = absurd ((enter_why s lane id e k.1 v).1 p)
  one (Enter lane id) answer.Done answer.Dropped c d u v i j h p k q = absurd k.1
  one (Enter lane id) answer.Done other c d u v i j h p k q = absurd j
  one (Enter lane id) (answer.Refused x) answer.Done c d u v i j h p k q = absurd ((enter_why s lane id x h.1 u).1 q)
  one (Enter lane id) (answer.Refused x) (answer.Refused e) c d u v i j h p k q =
      ap (λ z. answer.Refused z) ((enter_why s lane id x h.1 u).0 ∙ sym (enter_why s lane id e k.1 v).0)
  one (Enter lane id) (answer.Refused x) answer.Dropped c d u v i j h p k q = absurd k.1
  one (Enter lane id) (answer.Refused x) other c d u v i j h p k q = absurd j
  one (Enter lane id) answer.Dropped other c d u v i j h p k q = absurd h.1
  one (RecordValues lane id values) answer.Done answer.Done c d u v i j h p k q = refl
  one (RecordValues lane id values) answer.Done (answer.Refused e) c d u v i j h p k q = absurd (k.1.1 p)
  one (RecordValues lane id values) answer.Done answer.Dropped c d u v i j h p k q = absurd k.1
  one (RecordValues lane id values) answer.Done other c d u v i j h p k q = absurd j
  one (RecordValues lane id values) (answer.Refused x) answer.Done c d u v i j h p k q = absurd (h.1.1 q)
  one (RecordValues lane id values) (answer.Refused x) (answer.Refused e) c d u v i j h p k q = ap (λ z. answer.Refused z) (h.1.0 ∙ sym k.1.0)
  one (RecordValues lane id values) (answer.Refused x) answer.Dropped c d u v i j h p k q = absurd k.1
  one (RecordValues lane id values) (answer.Refused x) other c d u v i j h p k q = absurd j
  one (RecordValues lane id values) answer.Dropped other c d u v i j h p k q = absurd h.1
  one (Follow lane id second) answer.Done answer.Done c d u v i j h p k q = refl
  one (Follow lane id second) answer.Done (answer.Refused e) c d u v i j h p k q = absurd (k.1.1 p)
  one (Follow lane id second) answer.Done answer.Dropped c d u v i j h p k q = absurd k.1
  one (Follow lane id second) answer.Done other c d u v i j h p k q = absurd j
  one (Follow lane id second) (answer.Refused x) answer.Done c d u v i j h p k q = absurd (h.1.1 q)
  one (Follow lane id second) (answer.Refused x) (answer.Refused e) c d u v i j h p k q = ap (λ z. answer.Refused z) (h.1.0 ∙ sym k.1.0)
  one (Follow lane id second) (answer.Refused x) answer.Dropped c d u v i j h p k q = absurd k.1
  one (Follow lane id second) (answer.Refused x) other c d u v i j h p k q = absurd j
  one (Follow lane id second) answer.Dropped other c d u v i j h p k q = absurd h.1
  one (Exit lane id) answer.Done answer.Done c d u v i j h p k q = refl
  one (Exit lane id) answer.Done (answer.Refused e) c d u v i j h p k q = absurd k.1
  one (Exit lane id) answer.Done answer.Dropped c d u v i j h p k q = absurd k.1
  one (Exit lane id) answer.Done other c d u v i j h p k q = absurd j
  one (Exit lane id) (answer.Refused x) other c d u v i j h p k q = absurd h.1
  one (Exit lane id) answer.Dropped other c d u v i j h p k q = absurd h.1
  one (AddHandle lane id) answer.Done answer.Done c d u v i j h p k q = refl
  one (AddHandle lane id) answer.Done (answer.Refused e) c d u v i j h p k q = absurd (added_or_refused id e h.1 p k.1)
  one (AddHandle lane id) answer.Done answer.Dropped c d u v i j h p k q = absurd k.1
  one (AddHandle lane id) answer.Done other c d u v i j h p k q = absurd j
  one (AddHandle lane id) (answer.Refused x) answer.Done c d u v i j h p k q = absurd (added_or_refused id x k.1 q h.1)
  one (AddHandle lane id) (answer.Refused x) (answer.Refused e) c d u v i j h p k q =
      ap (λ z. answer.Refused z) (one_why x e (UnknownSpan id) (CountFull id) (λ n o. n o.0) (clone_why s id x h.1) (clone_why s id e k.1))
  one (AddHandle lane id) (answer.Refused x) answer.Dropped c d u v i j h p k q = absurd k.1
  one (AddHandle lane id) (answer.Refused x) other c d u v i j h p k q = absurd j
  one (AddHandle lane id) answer.Dropped other c d u v i j h p k q = absurd h.1
  one (DropHandle lane id) (answer.Yes a) (answer.Yes b) c d u v i j h p k q = ap (λ z. answer.Yes z) (same_drop id a b p.1 q.1)
  one (DropHandle lane id) (answer.Yes a) (answer.Refused e) c d u v i j h p k q = absurd (dropped_or_held id e p.0 k.1)
  one (DropHandle lane id) (answer.Yes a) answer.Dropped c d u v i j h p k q = absurd k.1
  one (DropHandle lane id) (answer.Yes a) other c d u v i j h p k q = absurd j
  one (DropHandle lane id) (answer.Refused x) (answer.Yes b) c d u v i j h p k q = absurd (dropped_or_held id x q.0 h.1)
  one (DropHandle lane id) (answer.Refused x) (answer.Refused e) c d u v i j h p k q =
      ap (λ z. answer.Refused z) (one_why x e (UnknownSpan id) (NoHandle id) (λ n o. n o.0) (release_why s id x h.1) (release_why s id e k.1))
  one (DropHandle lane id) (answer.Refused x) answer.Dropped c d u v i j h p k q = absurd k.1
  one (DropHandle lane id) (answer.Refused x) other c d u v i j h p k q = absurd j
  one (DropHandle lane id) answer.Dropped other c d u v i j h p k q = absurd h.1
  one (AskCurrent lane) (answer.Current a) (answer.Current b) c d u v i j h p k q =
      ap (λ z. answer.Current z) (same_current a b (current_once s.store lane.0 (option_map number_of a) (option_map number_of b) h.1 k.1))
  one (AskCurrent lane) (answer.Current a) (answer.Refused e) c d u v i j h p k q = absurd k.1
  one (AskCurrent lane) (answer.Current a) answer.Dropped c d u v i j h p k q = absurd k.1
  one (AskCurrent lane) (answer.Current a) other c d u v i j h p k q = absurd j
  one (AskCurrent lane) (answer.Refused x) other c d u v i j h p k q = absurd h.1
  one (AskCurrent lane) answer.Dropped other c d u v i j h p k q = absurd h.1
  one (Reload n l) answer.Done answer.Done c d u v i j h p k q = refl
  one (Reload n l) answer.Done (answer.Refused e) c d u v i j h p k q = absurd (true≢false (sym h.1 ∙ k.1.1))
  one (Reload n l) answer.Done answer.Dropped c d u v i j h p k q = absurd k.1
  one (Reload n l) answer.Done other c d u v i j h p k q = absurd j
  one (Reload n l) (answer.Refused x) answer.Done c d u v i j h p k q = absurd (true≢false (sym k.1 ∙ h.1.1))
  one (Reload n l) (answer.Refused x) (answer.Refused e) c d u v i j h p k q = ap (λ z. answer.Refused z) (h.1.0 ∙ sym k.1.0)
  one (Reload n l) (answer.Refused x) answer.Dropped c d u v i j h p k q = absurd k.1
  one (Reload n l) (answer.Refused x) other c d u v i j h p k q = absurd j
  one (Reload n l) answer.Dropped other c d u v i j h p k q = absurd h.1
  one call other b c d u v i j h p k q = absurd i

-- two servings of one call
pub answers_one : {S T : Type 0} {registry : S → RegistryState} {with_registry : S → RegistryState → S} {has_form : S → Form → Type 0}
    {stepped : StackSteps S} {reloaded : ReloadSteps S} {other : T → RegistryState} {with_other : T → RegistryState → T} {other_form : T → Form → Type 0}
    {other_steps : StackSteps T} {other_levels : ReloadSteps T}
    → ((m : Spans) (x : ℕ) (xs ys : List ℕ) → Closes m x xs → Closes m x ys → xs ≡ ys)
    → AnswersAreOne registry other (Serves registry with_registry has_form stepped reloaded) (Serves other with_other other_form other_steps other_levels)
answers_one {registry = registry} {with_registry = with_registry} {has_form = has_form} {stepped = stepped} {reloaded = reloaded} {other = other}
    {with_other = with_other} {other_form = other_form} {other_steps = other_steps} {other_levels = other_levels}
    law call f kept after later x y z w a b made more same h k u v =
    let facts = facts_of registry with_registry has_form stepped reloaded call f kept x a made after y h in
    let others = facts_of other with_other other_form other_steps other_levels call f kept z b more later w k in
    one law f kept (registry x) call a b after later u v (kind_of call a (registry x).store _ h.says) (kind_of call b (other z).store _ k.says) h.answers facts
    (subst (λ s. AnswersWith call kept f s b later) (sym same) k.answers) (subst (Facts call b) (sym same) others)
