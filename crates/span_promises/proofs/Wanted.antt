-- What one of two levels passes is never dropped.
use Rattle.std.proofs.Common.{inl, inr, ◌||◌, ◌&&◌, ◌⊎◌, ◌≡◌, ◌∙◌, ℕ, Bool, true, false, IsTrue, List, [], ◌∷◌, ◌++◌, map, Option, Some, None, ap, refl, subst}
use Rattle.std.proofs.Common.{sym, not}
use Rattle.std.proofs.lemmas.Bool.{false≢true, true≢false}
use Rattle.std.specs.Borrow.{Bor}
use Rattle.std.specs.List.{FoldsTo}
use Rattle.std.specs.Option.{option_and_then, option_map}
use Rattle.std.specs.Prelude.{⊤}
use Rattle.span_core.specs.Event.{event_of}
use Rattle.span_core.specs.Level.{passes_level}
use Rattle.span_core.specs.Metadata.{level_of}
use Rattle.span_core.specs.Span.{attributes_of, record_of}
use Rattle.span_core.specs.declared.field.FieldValue.{FieldValue}
use Rattle.span_targets.specs.declared.setting.Setting.{Setting}
use Rattle.span_core.specs.declared.metadata.Metadata.{Metadata}
use Rattle.span_core.specs.declared.span.Id.{Id}
use Rattle.span_core.specs.declared.span.Lane.{Lane}
use Rattle.span_core.specs.declared.span.Parent.{Parent}
use Rattle.span_dispatch.specs.Admission.{IsDecided, is_let_by}
use Rattle.span_dispatch.specs.Cache.{KeptCallsites}
use Rattle.span_dispatch.specs.Call.{AnswersWith, LeavesSpan, vetoes_whole}
use Rattle.span_dispatch.specs.private.Step.{ServesRequest, closes_of}
use Rattle.span_dispatch.specs.Outcome.{LayersGo, Reloaded, Makes, Noticed, Outcome, OutcomeAt, Quiet}
use Rattle.span_dispatch.specs.Serve.{Formed, Run, ServesAsked, call_of, resolved, resolved_parent}
use Rattle.span_dispatch.specs.declared.call.Call.{Call}
use Rattle.span_dispatch.specs.declared.call.Call.TheVariants.{AddHandle, AskCurrent, DropHandle, Enter, Exit, Follow, OpenSpan, Probe, RecordValues, SendEvent}
use Rattle.span_dispatch.specs.declared.call.Call.TheVariants.{Reload}
use Rattle.span_dispatch.specs.declared.request.Answer.TheVariants as answer
use Rattle.span_dispatch.specs.declared.request.Answer.{Answer}
use Rattle.span_dispatch.specs.declared.request.Request.TheVariants as request
use Rattle.span_dispatch.specs.declared.request.Request.{Request}
use Rattle.span_filters.specs.Level.{level_answers}
use Rattle.span_stacks.specs.Verdict.{vetoes}
use Rattle.span_stacks.specs.Wanted.{IsUnwanted}
use Rattle.span_store.specs.Store.{RegistryState, Store}
use Rattle.span_registry.specs.Behaviour.{OnEvent}
use Rattle.span_registry.specs.Form.{Form}
use Rattle.span_registry.specs.Position.{Here, Inner, Outer, Under}
use Rattle.span_promises.proofs.MadeCall.{in_effect}
use Rattle.span_promises.proofs.Stack.{form_by, form_set}
use Rattle.span_promises.specs.MadeCall.{Effect, HasOutcomes, NoAnswer, NoEffect, OfDrop, OfExit, OneOutcome, effect_of}
use Rattle.span_promises.specs.Promises.{IsWanted, Levels, NoneWantedIsDropped, levels_after, one_passes}
use Rattle.span_dispatch.specs.private.Fixed.{set_at}

-- ---- what is wanted isn't unwanted

either_true : (a b : Bool) → IsTrue (a || b) → (a ≡ true) ⊎ (b ≡ true)
either_true true b h = inl refl
either_true false true h = inr refl
either_true false false h = absurd (false≢true h)

passed_so : (b : Bool) → b ≡ true → ((b && true) && true) ≡ true
passed_so true e = refl
passed_so false e = absurd (false≢true e)

wanted : (now : Levels) (m : Metadata) (s : Store) (lane : ℕ) (values : Bor (List (Bor (List ℕ) × FieldValue))) (p : Parent) → IsTrue (one_passes now m)
    → IsUnwanted (form_by now) m s lane → ⊥
wanted now m s lane values p w (inl v) = false≢true v
wanted now m s lane values p w (inr nobody) = elim (either_true (passes_level now.0 (level_of m)) (passes_level now.1 (level_of m)) w) [
  | inl a ↦ true≢false (sym (passed_so (passes_level now.0 (level_of m)) a)
      ∙ nobody (OnEvent (event_of m values p)) (Outer (Outer (Under Here))) ((Some 0, level_answers now.0) ∷ []) refl refl)
  | inr b ↦ true≢false (sym (passed_so (passes_level now.1 (level_of m)) b)
      ∙ nobody (OnEvent (event_of m values p)) (Outer (Inner (Under Here))) ((Some 1, level_answers now.1) ∷ []) refl refl)
]

not_dropped : (now : Levels) (memory : KeptCallsites) (s : RegistryState) (m : Metadata) (lane : Lane) (values : Bor (List (Bor (List ℕ) × FieldValue)))
    (p : Parent) (f : Form) (vetoed : Form → Bool) → (vetoed (form_by now) ≡ false) → f ≡ form_by now → IsTrue (one_passes now m)
    → (after : KeptCallsites) → IsDecided memory f s lane m (vetoed f) false after → ⊥
not_dropped now memory s m lane values p f vetoed none e w after d = by_let (is_let_by memory (form_by now) s.filters m) refl
  where
    decided : IsDecided memory (form_by now) s lane m (vetoed (form_by now)) false after
    decided = subst (λ g. IsDecided memory g s lane m (vetoed g) false after) e d

    by_let : (b : Bool) → is_let_by memory (form_by now) s.filters m ≡ b → ⊥
    by_let true l = false≢true (decided.wanted ∙ ap (λ b. b && not (vetoed (form_by now))) l ∙ ap not none)
    by_let false l = wanted now m s.store lane.0 values p w (decided.unwanted l)

-- ---- what the form becomes

-- the form after an outcome
abbrev pub form_after : Outcome → Form → Form
form_after (Reloaded n l) f = set_at n l f
form_after other f = f

-- after many
abbrev forms_after : List Outcome → Form → Form
forms_after [] f = f
forms_after (o ∷ os) f = forms_after os (form_after o f)

abbrev pub MakesIn : Formed → OutcomeAt → Formed → Type 0
MakesIn = Makes (λ (r : Formed). r.0) (λ r w. (w, r.1)) (λ r h. h ≡ r.1) (λ r p e lane v q w. q.1 ≡ r.1) (λ r n l q. q.1 ≡ set_at n l r.1)

abbrev pub ServesIn : List Answer → Request → KeptCallsites → Formed → Answer → List OutcomeAt → KeptCallsites → Formed → Type 0
ServesIn = ServesRequest (λ (r : Formed). r.0) (λ r w. (w, r.1)) (λ r h. h ≡ r.1) (λ r p e lane v q w. q.1 ≡ r.1) (λ r n l q. q.1 ≡ set_at n l r.1)

abbrev pub AskedIn : Option Call → KeptCallsites → Formed → Answer → List OutcomeAt → KeptCallsites → Formed → Type 0
AskedIn = ServesAsked (λ (r : Formed). r.0) (λ r w. (w, r.1)) (λ r h. h ≡ r.1) (λ r p e lane v q w. q.1 ≡ r.1) (λ r n l q. q.1 ≡ set_at n l r.1)

abbrev pub RunIn : List Answer → List Request → List Answer → List (List OutcomeAt) → KeptCallsites → Formed → KeptCallsites → Formed → Type 0
RunIn = Run (λ (r : Formed). r.0) (λ r w. (w, r.1)) (λ r h. h ≡ r.1) (λ r p e lane v q w. q.1 ≡ r.1) (λ r n l q. q.1 ≡ set_at n l r.1)

abbrev GoIn : Form → Outcome → Store → Store → Formed → Formed → Type 0
GoIn = LayersGo (λ (r : Formed). r.0) (λ r w. (w, r.1)) (λ r h. h ≡ r.1) (λ r p e lane v q w. q.1 ≡ r.1) (λ r n l q. q.1 ≡ set_at n l r.1)

pub form_goes : (g : Form) (o : Outcome) (s t : Store) (x y : Formed) → GoIn g o s t x y → y.1 ≡ form_after o x.1
form_goes g (Noticed lane e) s t x y h = ap (λ (r : Formed). r.1) h.rest ∙ h.layers
form_goes g (Quiet c) s t x y h = ap (λ (r : Formed). r.1) h.1
form_goes g (Reloaded n l) s t x y h = h.1

forms_go : (ms : List OutcomeAt) (x y : Formed) → FoldsTo MakesIn x ms y → y.1 ≡ forms_after (map (λ m. m.outcome) ms) x.1
forms_go [] x y h = ap (λ (r : Formed). r.1) (sym h)
forms_go (m ∷ ms) x y h = forms_go ms h.0 y h.2 ∙ ap (forms_after (map (λ k. k.outcome) ms)) (form_goes m.form m.outcome m.before m.after x h.0 h.1.layers)

-- no level is among what comes of this
abbrev SetsNone : Effect → Type 0
SetsNone (OneOutcome (Reloaded n l)) = ⊥
SetsNone other = ⊤

closes_set_none : (lane : Lane) (closed : List ℕ) (f : Form) → forms_after (closes_of lane closed) f ≡ f
closes_set_none lane [] f = refl
closes_set_none lane (x ∷ closed) f = closes_set_none lane closed f

neither : {P : Type 0} → (P → ⊥) → ((P → ⊥) → ⊥) → ⊥
neither a b = b a

-- of a lane that leaves a span comes one outcome, whichever
exit_sets_none : (lane : Lane) (id : Id) (s : Store) (os : List Outcome) (f : Form) → LeavesSpan lane id s os → forms_after os f ≡ f
exit_sets_none lane id s [] f h = absurd (neither (λ o. let e = h.there o in let no : ⊥ = cc in no) (λ n. let e = h.gone n in let no : ⊥ = cc in no))
exit_sets_none lane id s (Noticed l e ∷ []) f h = refl
exit_sets_none lane id s (Quiet c ∷ []) f h = refl
exit_sets_none lane id s (Reloaded n l ∷ []) f h =
    absurd (neither (λ o. let e = h.there o in let no : ⊥ = cc in no) (λ n. let e = h.gone n in let no : ⊥ = cc in no))
exit_sets_none lane id s (one ∷ two ∷ os) f h =
    absurd (neither (λ o. let e = h.there o in let no : ⊥ = cc in no) (λ n. let e = h.gone n in let no : ⊥ = cc in no))

effect_sets_none : (e : Effect) (s : Store) (os : List Outcome) (f : Form) → SetsNone e → HasOutcomes e s os → forms_after os f ≡ f
effect_sets_none NoEffect s os f k h = ap (λ us. forms_after us f) h
effect_sets_none NoAnswer s os f k h = absurd h
effect_sets_none (OneOutcome (Noticed lane e)) s os f k h = ap (λ us. forms_after us f) h
effect_sets_none (OneOutcome (Quiet c)) s os f k h = ap (λ us. forms_after us f) h
effect_sets_none (OneOutcome (Reloaded n l)) s os f k h = absurd k
effect_sets_none (OfExit lane id) s os f k h = exit_sets_none lane id s os f h
effect_sets_none (OfDrop lane id closes) s os f k h = ap (λ us. forms_after us f) h.outcomes ∙ closes_set_none lane h.closed f

-- the call sets no level
abbrev NoLevel : Call → Type 0
NoLevel (Reload n l) = ⊥
NoLevel other = ⊤

call_sets_none : (call : Call) (a : Answer) → NoLevel call → SetsNone (effect_of call a)
call_sets_none (OpenSpan lane x) (answer.Made id) k = tt
call_sets_none (OpenSpan lane x) other k = tt
call_sets_none (SendEvent lane x) answer.Done k = tt
call_sets_none (SendEvent lane x) other k = tt
call_sets_none (Enter lane x) answer.Done k = tt
call_sets_none (Enter lane x) other k = tt
call_sets_none (Exit lane x) answer.Done k = tt
call_sets_none (Exit lane x) other k = tt
call_sets_none (RecordValues lane x v) answer.Done k = tt
call_sets_none (RecordValues lane x v) other k = tt
call_sets_none (Follow lane x y) answer.Done k = tt
call_sets_none (Follow lane x y) other k = tt
call_sets_none (AddHandle lane x) answer.Done k = tt
call_sets_none (AddHandle lane x) other k = tt
call_sets_none (DropHandle lane x) (answer.Yes b) k = tt
call_sets_none (DropHandle lane x) other k = tt
call_sets_none (Probe lane x) (answer.Yes b) k = tt
call_sets_none (Probe lane x) other k = tt
call_sets_none (AskCurrent lane) (answer.Current o) k = tt
call_sets_none (AskCurrent lane) other k = tt
call_sets_none (Reload n l) a k = absurd k

abbrev AsksNoLevel : Option Call → Type 0
AsksNoLevel None = ⊤
AsksNoLevel (Some call) = NoLevel call

asks_none : {A : Type 0} (f : A → Call) → ((x : A) → NoLevel (f x)) → (o : Option A) → AsksNoLevel (option_map f o)
asks_none f k None = tt
asks_none f k (Some x) = k x

asks_none_of_both : {A : Type 0} (f : A → Option Call) → ((x : A) → AsksNoLevel (f x)) → (o : Option A) → AsksNoLevel (option_and_then f o)
asks_none_of_both f k None = tt
asks_none_of_both f k (Some x) = k x

-- what sets no level leaves the form
asked_form : (o : Option Call) (memory : KeptCallsites) (x : Formed) (a : Answer) (ms : List OutcomeAt) (after : KeptCallsites) (y : Formed) → AsksNoLevel o
    → AskedIn o memory x a ms after y → y.1 ≡ x.1
asked_form None memory x a ms after y k h = ap (λ (r : Formed). r.1) h.3
asked_form (Some call) memory x a ms after y k h = forms_go ms x y h.2.goes
    ∙ effect_sets_none (effect_of call a)
    x.0.store (map (λ m. m.outcome) ms) x.1 (call_sets_none call a k) ((in_effect call a x.0.store (map (λ m. m.outcome) ms)).0 h.2.says)

-- and a level that is set gives it that one
level_form : (now : Levels) (past : List Answer) (n : ℕ) (l : Setting) (memory : KeptCallsites) (s : RegistryState) (a : Answer) (ms : List OutcomeAt)
    (after : KeptCallsites) (y : Formed)
    → ServesIn past (request.Reload n l) memory (s, form_by now) a ms after y → y.1 ≡ form_by (levels_after now (request.Reload n l) a)
level_form now past n l memory s answer.Done ms after y h = forms_go ms (s, form_by now) y h.2.goes ∙ ap (λ us. forms_after us (form_by now)) h.2.says
    ∙ form_set now n l
level_form now past n l memory s answer.Dropped ms after y h = forms_go ms (s, form_by now) y h.2.goes ∙ ap (λ us. forms_after us (form_by now)) h.2.says
level_form now past n l memory s (answer.Refused e) ms after y h = forms_go ms (s, form_by now) y h.2.goes ∙ ap (λ us. forms_after us (form_by now)) h.2.says
level_form now past n l memory s other ms after y h = absurd h.2.says

-- the form after a request is that of the levels after it
pub request_form : (now : Levels) (past : List Answer) (r : Request) (memory : KeptCallsites) (s : RegistryState) (a : Answer) (ms : List OutcomeAt)
    (after : KeptCallsites) (y : Formed)
    → ServesIn past r memory (s, form_by now) a ms after y → y.1 ≡ form_by (levels_after now r a)
request_form now past (request.NewSpan lane m p values) memory s a ms after y h = asked_form (call_of past (request.NewSpan lane m p values)) memory
    (s, form_by now) a ms after y tt h
request_form now past (request.Event lane m p values) memory s a ms after y h = asked_form (call_of past (request.Event lane m p values)) memory
    (s, form_by now) a ms after y tt h
request_form now past (request.Enter lane w) memory s a ms after y h = asked_form (call_of past (request.Enter lane w)) memory (s, form_by now) a ms after y
    (asks_none (λ x. Enter lane x) (λ x. tt) (resolved past w)) h
request_form now past (request.Exit lane w) memory s a ms after y h = asked_form (call_of past (request.Exit lane w)) memory (s, form_by now) a ms after y
    (asks_none (λ x. Exit lane x) (λ x. tt) (resolved past w)) h
request_form now past (request.Record lane w values) memory s a ms after y h = asked_form (call_of past (request.Record lane w values)) memory
    (s, form_by now) a ms after y (asks_none (λ x. RecordValues lane x (record_of values)) (λ x. tt) (resolved past w)) h
request_form now past (request.Follows lane w v) memory s a ms after y h =
    asked_form (call_of past (request.Follows lane w v)) memory (s, form_by now) a ms after y
    (asks_none_of_both (λ x. option_map (λ z. Follow lane x z) (resolved past v)) (λ x. asks_none (λ z. Follow lane x z) (λ z. tt) (resolved past v))
    (resolved past w)) h
request_form now past (request.Clone lane w) memory s a ms after y h = asked_form (call_of past (request.Clone lane w)) memory (s, form_by now) a ms after y
    (asks_none (λ x. AddHandle lane x) (λ x. tt) (resolved past w)) h
request_form now past (request.Drop lane w) memory s a ms after y h = asked_form (call_of past (request.Drop lane w)) memory (s, form_by now) a ms after y
    (asks_none (λ x. DropHandle lane x) (λ x. tt) (resolved past w)) h
request_form now past (request.Enabled lane m) memory s a ms after y h = asked_form (call_of past (request.Enabled lane m)) memory (s, form_by now) a ms
    after y tt h
request_form now past (request.Current lane) memory s a ms after y h = asked_form (call_of past (request.Current lane)) memory (s, form_by now) a ms after y
    tt h
request_form now past (request.Reload n l) memory s a ms after y h = level_form now past n l memory s a ms after y h

-- ---- request by request

pub request_kept : (now : Levels) (past : List Answer) (r : Request) (memory : KeptCallsites) (s : RegistryState) (a : Answer) (ms : List OutcomeAt)
    (after : KeptCallsites) (y : Formed)
    → ServesIn past r memory (s, form_by now) a ms after y → IsWanted now r → a ≡ answer.Dropped → ⊥
request_kept now past (request.NewSpan lane m p values) memory s a ms after y h w e =
    not_dropped now memory s m lane values (resolved_parent past p) h.0 (λ g. vetoes g m s.store lane.0) refl h.1.honest.has w after
    (subst (λ b. AnswersWith (OpenSpan lane (attributes_of m values (resolved_parent past p))) memory h.0 s b after) e h.2.answers)
request_kept now past (request.Event lane m p values) memory s a ms after y h w e =
    not_dropped now memory s m lane values (resolved_parent past p) h.0 (λ g. vetoes_whole g (event_of m values (resolved_parent past p)) s.store lane) refl
    h.1.honest.has w after (subst (λ b. AnswersWith (SendEvent lane (event_of m values (resolved_parent past p))) memory h.0 s b after) e h.2.answers)
request_kept now past other memory s a ms after y h w e = absurd w

pub none_wanted_is_dropped : (now : Levels) (past : List Answer) (rs : List Request) (answers : List Answer) (made : List (List OutcomeAt))
    (memory : KeptCallsites) (s : RegistryState) (after : KeptCallsites) (y : Formed)
    → RunIn past rs answers made memory (s, form_by now) after y → NoneWantedIsDropped now rs answers
none_wanted_is_dropped now past [] [] made memory s after y h = tt
none_wanted_is_dropped now past (r ∷ rs) (a ∷ answers) (ms ∷ made) memory s after y h =
    let form = request_form now past r memory s a ms h.0 h.1 h.2 in (
      λ w e. request_kept now past r memory s a ms h.0 h.1 h.2 w e,
      none_wanted_is_dropped (levels_after now r a) (past ++ (a ∷ [])) rs answers made h.0 h.1.0 after y
          (subst (λ (g : Form). RunIn (past ++ (a ∷ [])) rs answers made h.0 (h.1.0, g) after y) form h.3),
    )
none_wanted_is_dropped now past rs answers made memory s after y h = absurd h
