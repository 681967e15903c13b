-- What calls make by themselves: on stores that agree the same; and a stack makes just that of them.
use Rattle.std.proofs.Common.{◌≡◌, ℕ, ◌↔◌, ◌⊎◌, inl, inr, Bool, true, false, cond, if◌then◌else◌, List, [], ◌∷◌, ◌++◌, map, filter, Option, Some, None, refl}
use Rattle.std.proofs.Common.{sym, ap, subst, ◌∙◌}
use Rattle.std.proofs.lemmas.Bool.{false≢true, or_parts, true≢false}
use Rattle.std.proofs.lemmas.List.Elements.{filter-append}
use Rattle.std.proofs.lemmas.List.{map-append}
use Rattle.std.specs.FinMap.{get}
use Rattle.std.specs.List.{FoldsTo}
use Rattle.span_core.specs.Filters.{FilterSet}
use Rattle.span_core.specs.Span.{number_of}
use Rattle.span_targets.specs.declared.setting.Setting.{Setting}
use Rattle.span_core.specs.declared.span.Lane.{Lane}
use Rattle.span_dispatch.proofs.Acting.{acting_numbers, alone_over, none_within, paths_itself, step_over, steps_agree}
use Rattle.span_dispatch.proofs.Alone.{agree_same, steps_alone}
use Rattle.span_dispatch.proofs.Goes.{left_aside}
use Rattle.span_dispatch.specs.Alone.{Alone, acting, form_of_path, passed_at}
use Rattle.span_dispatch.specs.Call.{OutcomesOf}
use Rattle.span_dispatch.specs.private.Step.{closes_of}
use Rattle.span_dispatch.specs.Contract.{SubscriberOf}
use Rattle.span_dispatch.specs.declared.call.Call.TheVariants.{AddHandle, AskCurrent, DropHandle, Enter, Exit, Follow, OpenSpan, Probe, RecordValues, SendEvent}
use Rattle.span_dispatch.specs.declared.call.Call.TheVariants.{Reload}
use Rattle.span_dispatch.specs.declared.call.Call.{Call}
use Rattle.span_dispatch.specs.Outcome.{HandleTaken, Reloaded, OutcomeAt, Makes, Noticed, Outcome, Quiet, Steps}
use Rattle.span_dispatch.specs.Cache.{KeptCallsites}
use Rattle.span_dispatch.specs.Serve.{Run, ServesAsked, call_of, flat, kept_by, outcome_of, stack_of}
use Rattle.span_dispatch.specs.declared.request.Answer.TheVariants as answer
use Rattle.span_dispatch.specs.declared.request.Answer.{Answer}
use Rattle.span_dispatch.specs.declared.request.Request.{Request}
use Rattle.span_store.specs.Closes.{Closes}
use Rattle.span_store.specs.Store.{IsClosing, IsInStore, IsOpen, Span, Spans, Store}
use Rattle.span_registry.proofs.Agreeing.{agree_refl, agree_sym, agree_trans, agree_within, closes_alike, not_open_alike, open_alike}
use Rattle.span_registry.specs.Agree.{AgreeAt}
use Rattle.span_registry.specs.Conducts.{Conducts, after_reload, filter_numbered, numbers_in, reloading}
use Rattle.span_registry.specs.Hooks.{no_filter}
use Rattle.span_registry.specs.Position.{Heard}
use Rattle.span_promises.proofs.Isolation.{PathsOf, one_alone}
use Rattle.span_promises.specs.Isolation.{AskedIn, CallsSeenTheSame, HasSameOutcomes, HaveSameOutcomes, SeeTheSame, SeenAlone, Sight}
use Rattle.span_promises.specs.MadeCall.{AloneOf, Effect, GoesThrough, HasOutcomes, MadeCall, NoAnswer, NoEffect, OfDrop, OfExit, OneOutcome, OutcomesFrom}
use Rattle.span_promises.specs.MadeCall.{concerns, effect_of, is_concern, made_call, made_calls}

-- ---- one call

-- what comes of a call is what its effect has
either_way : {P : Type 0} → P ↔ P
either_way = ((λ h. h), (λ h. h))

pub in_effect : (call : Call) (a : Answer) (s : Store) (os : List Outcome) → OutcomesOf call a s os ↔ HasOutcomes (effect_of call a) s os
in_effect (OpenSpan lane x) (answer.Made y) s os = either_way
in_effect (OpenSpan lane x) answer.Dropped s os = either_way
in_effect (OpenSpan lane x) (answer.Refused y) s os = either_way
in_effect (OpenSpan lane x) answer.Done s os = either_way
in_effect (OpenSpan lane x) (answer.Yes b) s os = either_way
in_effect (OpenSpan lane x) (answer.Current o) s os = either_way
in_effect (SendEvent lane e) (answer.Made y) s os = either_way
in_effect (SendEvent lane e) answer.Dropped s os = either_way
in_effect (SendEvent lane e) (answer.Refused y) s os = either_way
in_effect (SendEvent lane e) answer.Done s os = either_way
in_effect (SendEvent lane e) (answer.Yes b) s os = either_way
in_effect (SendEvent lane e) (answer.Current o) s os = either_way
in_effect (Enter lane id) (answer.Made y) s os = either_way
in_effect (Enter lane id) answer.Dropped s os = either_way
in_effect (Enter lane id) (answer.Refused y) s os = either_way
in_effect (Enter lane id) answer.Done s os = either_way
in_effect (Enter lane id) (answer.Yes b) s os = either_way
in_effect (Enter lane id) (answer.Current o) s os = either_way
in_effect (Exit lane id) (answer.Made y) s os = either_way
in_effect (Exit lane id) answer.Dropped s os = either_way
in_effect (Exit lane id) (answer.Refused y) s os = either_way
in_effect (Exit lane id) answer.Done s os = either_way
in_effect (Exit lane id) (answer.Yes b) s os = either_way
in_effect (Exit lane id) (answer.Current o) s os = either_way
in_effect (RecordValues lane id values) (answer.Made y) s os = either_way
in_effect (RecordValues lane id values) answer.Dropped s os = either_way
in_effect (RecordValues lane id values) (answer.Refused y) s os = either_way
in_effect (RecordValues lane id values) answer.Done s os = either_way
in_effect (RecordValues lane id values) (answer.Yes b) s os = either_way
in_effect (RecordValues lane id values) (answer.Current o) s os = either_way
in_effect (Follow lane id other) (answer.Made y) s os = either_way
in_effect (Follow lane id other) answer.Dropped s os = either_way
in_effect (Follow lane id other) (answer.Refused y) s os = either_way
in_effect (Follow lane id other) answer.Done s os = either_way
in_effect (Follow lane id other) (answer.Yes b) s os = either_way
in_effect (Follow lane id other) (answer.Current o) s os = either_way
in_effect (AddHandle lane id) (answer.Made y) s os = either_way
in_effect (AddHandle lane id) answer.Dropped s os = either_way
in_effect (AddHandle lane id) (answer.Refused y) s os = either_way
in_effect (AddHandle lane id) answer.Done s os = either_way
in_effect (AddHandle lane id) (answer.Yes b) s os = either_way
in_effect (AddHandle lane id) (answer.Current o) s os = either_way
in_effect (DropHandle lane id) (answer.Made y) s os = either_way
in_effect (DropHandle lane id) answer.Dropped s os = either_way
in_effect (DropHandle lane id) (answer.Refused y) s os = either_way
in_effect (DropHandle lane id) answer.Done s os = either_way
in_effect (DropHandle lane id) (answer.Yes b) s os = either_way
in_effect (DropHandle lane id) (answer.Current o) s os = either_way
in_effect (Probe lane m) (answer.Made y) s os = either_way
in_effect (Probe lane m) answer.Dropped s os = either_way
in_effect (Probe lane m) (answer.Refused y) s os = either_way
in_effect (Probe lane m) answer.Done s os = either_way
in_effect (Probe lane m) (answer.Yes b) s os = either_way
in_effect (Probe lane m) (answer.Current o) s os = either_way
in_effect (AskCurrent lane) (answer.Made y) s os = either_way
in_effect (AskCurrent lane) answer.Dropped s os = either_way
in_effect (AskCurrent lane) (answer.Refused y) s os = either_way
in_effect (AskCurrent lane) answer.Done s os = either_way
in_effect (AskCurrent lane) (answer.Yes b) s os = either_way
in_effect (AskCurrent lane) (answer.Current o) s os = either_way
in_effect (Reload n l) (answer.Made y) s os = either_way
in_effect (Reload n l) answer.Dropped s os = either_way
in_effect (Reload n l) (answer.Refused y) s os = either_way
in_effect (Reload n l) answer.Done s os = either_way
in_effect (Reload n l) (answer.Yes b) s os = either_way
in_effect (Reload n l) (answer.Current o) s os = either_way

-- what has outcomes on the one store has the same on one that agrees
effect_over : (e : Effect) (numbers : FilterSet) (s t : Store) (os : List Outcome) → AgreeAt numbers s t → HasOutcomes e s os → HasOutcomes e t os
effect_over (OfExit lane id) numbers s t os agree h =
    let back = agree_sym numbers s t agree in
    record { there = λ o. h.there (open_alike numbers t s (number_of id) back o); gone = λ n. h.gone (not_open_alike numbers t s (number_of id) back n) }
effect_over (OfDrop lane id closes) numbers s t os agree h = record {
  closed = h.closed;
  exact = closes_alike numbers s t (number_of id) h.closed agree h.exact;
  outcomes = h.outcomes;
  itself = h.itself;
}
effect_over other numbers s t os agree h = h

-- what the registry's laws say: a span is in the store while it is open or closing, and never both; and what a drop closes is one list
abbrev pub InStoreWhile : Type 0
InStoreWhile = (m : Spans) (x : ℕ) → IsInStore m x ↔ (IsOpen m x ⊎ IsClosing m x)

abbrev pub NeverBoth : Type 0
NeverBoth = (m : Spans) (x : ℕ) → IsOpen m x → ¬ (IsClosing m x)

abbrev pub OneClosure : Type 0
OneClosure = (m : Spans) (x : ℕ) (xs ys : List ℕ) → Closes m x xs → Closes m x ys → xs ≡ ys

-- by these
module _ (while : InStoreWhile) (never : NeverBoth) (once : OneClosure) where
  open_or_not : (m : Spans) (x : ℕ) → IsOpen m x ⊎ ¬ (IsOpen m x)
  open_or_not m x = by_place (get m x) refl
    where
      by_place : (o : Option Span) → get m x ≡ o → IsOpen m x ⊎ ¬ (IsOpen m x)
      by_place None e = inr (λ h. let gone : None ≡ Some h.0 = sym e ∙ h.1 in let no : ⊥ = cc in no)
      by_place (Some r) e = elim ((while m x).0 (r, e)) [
        | inl o ↦ inl o
        | inr k ↦ inr (λ o. never m x o k)
      ]

  effect_once : (e : Effect) (numbers : FilterSet) (s t : Store) (os us : List Outcome) → AgreeAt numbers s t → HasOutcomes e s os
      → HasOutcomes e t us → os ≡ us
  effect_once NoEffect numbers s t os us agree h k = h ∙ sym k
  effect_once NoAnswer numbers s t os us agree h k = absurd h
  effect_once (OneOutcome o) numbers s t os us agree h k = h ∙ sym k
  effect_once (OfExit lane id) numbers s t os us agree h k = elim (open_or_not s.spans (number_of id)) [
    | inl o ↦ h.there o ∙ sym (k.there (open_alike numbers s t (number_of id) agree o))
    | inr n ↦ h.gone n ∙ sym (k.gone (not_open_alike numbers s t (number_of id) agree n))
  ]
  effect_once (OfDrop lane id closes) numbers s t os us agree h k =
      let same : h.closed ≡ k.closed = once t.spans (number_of id) h.closed k.closed (closes_alike numbers s t (number_of id) h.closed agree h.exact) k.exact in
      h.outcomes ∙ ap (λ closed. Quiet (HandleTaken id) ∷ closes_of lane closed) same ∙ sym k.outcomes

  pub same_outcomes : (numbers : FilterSet) (one : MadeCall) → HasSameOutcomes numbers one
  same_outcomes numbers one s t os us agree h k =
      effect_once (effect_of one.0 one.1) numbers s t os us agree ((in_effect one.0 one.1 s os).0 h) ((in_effect one.0 one.1 t us).0 k)

-- ---- calls in a row

-- stores that agree still do after the same outcomes
through_agree : (os : List Outcome) (s t u v : Store) → AgreeAt no_filter s t → GoesThrough s os u → GoesThrough t os v → AgreeAt no_filter u v
through_agree [] s t u v agree h k = subst (λ (x : Store). AgreeAt no_filter x v) h (subst (λ (x : Store). AgreeAt no_filter s x) k agree)
through_agree (o ∷ os) s t u v agree h k = through_agree os h.0 k.0 u v (steps_agree [] [] o s t h.0 k.0 tt agree h.1 k.1) h.2 k.2

-- where the one goes through them, so does the other
through_over : (os : List Outcome) (s t u : Store) → AgreeAt no_filter s t → GoesThrough s os u → (v : Store) × GoesThrough t os v
through_over [] s t u agree h = (t, refl)
through_over (o ∷ os) s t u agree h =
    let step = step_over [] [] o s t h.0 tt agree h.1 in
    let rest = through_over os h.0 step.0 u (steps_agree [] [] o s t h.0 step.0 tt agree h.1 step.1) h.2 in
    (rest.0, (step.0, step.1, rest.1))

-- what calls have on the one store they have on the other
outcomes_over : (calls : List MadeCall) (s t : Store) (os : List Outcome) → AgreeAt no_filter s t → OutcomesFrom s calls os → OutcomesFrom t calls os
outcomes_over [] s t os agree h = h
outcomes_over (one ∷ calls) s t os agree h =
    let on = through_over h.0 s t h.1 agree h.4 in
    let after = through_agree h.0 s t h.1 on.0 agree h.4 on.1 in
    let own = effect_over (effect_of one.0 one.1) no_filter s t h.0 agree ((in_effect one.0 one.1 s h.0).0 h.3) in
    (h.0, on.0, h.2, (in_effect one.0 one.1 t h.0).1 own, on.1, outcomes_over calls h.1 on.0 h.2 after h.5, h.6)

module _ (while : InStoreWhile) (never : NeverBoth) (once : OneClosure) where
  pub same_outcomes_all : (calls : List MadeCall) → HaveSameOutcomes calls
  same_outcomes_all [] s t os us agree h k = h ∙ sym k
  same_outcomes_all (one ∷ calls) s t os us agree h k =
      let first : h.0 ≡ k.0 = same_outcomes while never once no_filter one s t h.0 k.0 agree h.3 k.3 in
      let through = subst (λ (ws : List Outcome). GoesThrough t ws k.1) (sym first) k.4 in
      let rest : h.2 ≡ k.2 = same_outcomes_all calls h.1 k.1 h.2 k.2 (through_agree h.0 s t h.1 k.1 agree h.4 through) h.5 k.5 in
      h.6 ∙ (λ i. first i ++ rest i) ∙ sym k.6

  agree_at_none : (numbers : FilterSet) (s t : Store) → AgreeAt numbers s t → AgreeAt no_filter s t
  agree_at_none numbers s t agree = agree_within numbers no_filter s t (none_within numbers) agree

  -- what is seen of calls alone is the same on stores that agree
  one_alone_of : SeeTheSame AloneOf AloneOf
  one_alone_of cs ds s t calls h k a b p agree =
      let same : a.0 ≡ b.0 = same_outcomes_all calls s t a.0 b.0 (agree_at_none (numbers_in cs) s t agree) a.1 b.1 in
      one_alone cs ds s t a.0 h k a.2 (subst (λ (os : List Outcome). Alone ds t os k) (sym same) b.2) p agree

-- ---- outcomes that concern some filters

by_level : (b : Bool) (n : ℕ) (l : Setting) (os : List Outcome) (s u t : Store) → u ≡ s → GoesThrough u os t
    → GoesThrough s (cond b (Reloaded n l ∷ os) os) t
by_level true n l os s u t e h = (u, e, h)
by_level false n l os s u t e h = subst (λ (v : Store). GoesThrough v os t) e h

through_concerning : (numbers : FilterSet) (os : List Outcome) (s t : Store) → GoesThrough s os t → GoesThrough s (filter (concerns numbers) os) t
through_concerning numbers [] s t h = h
through_concerning numbers (Noticed lane e ∷ os) s t h = (h.0, h.1, through_concerning numbers os h.0 t h.2)
through_concerning numbers (Quiet c ∷ os) s t h = (h.0, h.1, through_concerning numbers os h.0 t h.2)
through_concerning numbers (Reloaded n l ∷ os) s t h =
    by_level (numbers n) n l (filter (concerns numbers) os) s h.0 t h.1 (through_concerning numbers os h.0 t h.2)

closes_concern : (numbers : FilterSet) (lane : Lane) (closed : List ℕ) → filter (concerns numbers) (closes_of lane closed) ≡ closes_of lane closed
closes_concern numbers lane [] = refl
closes_concern numbers lane (x ∷ closed) = ap (λ os. closes_of lane (x ∷ []) ++ os) (closes_concern numbers lane closed)

concern_of : (numbers : FilterSet) (e : Effect) (s : Store) (os : List Outcome) → HasOutcomes e s os
    → (is_concern numbers e ≡ true → HasOutcomes e s (filter (concerns numbers) os)) × (is_concern numbers e ≡ false → filter (concerns numbers) os ≡ [])
concern_of numbers NoEffect s os h = (λ t. absurd (false≢true t), λ f. ap (filter (concerns numbers)) h)
concern_of numbers NoAnswer s os h = absurd h
concern_of numbers (OneOutcome o) s os h =
    let one : (b : Bool) → concerns numbers o ≡ b → filter (concerns numbers) os ≡ cond b (o ∷ []) [] =
    λ b e. ap (filter (concerns numbers)) h ∙ ap (λ c. cond c (o ∷ []) []) e in
    (one true, one false)
concern_of numbers (OfExit lane id) s os h =
    (λ t. record { there = λ o. ap (filter (concerns numbers)) (h.there o); gone = λ n. ap (filter (concerns numbers)) (h.gone n) }, λ f. absurd (true≢false f))
concern_of numbers (OfDrop lane id closes) s os h =
    let outcomes = ap (filter (concerns numbers)) h.outcomes ∙ ap (λ us. Quiet (HandleTaken id) ∷ us) (closes_concern numbers lane h.closed) in
    (λ t. record { closed = h.closed; exact = h.exact; outcomes = outcomes; itself = h.itself }, λ f. absurd (true≢false f))

-- ---- what a stack makes of a call

-- by whether a call's outcomes concern the filters, they come first, or none does
by_concern : (numbers : FilterSet) (call : Call) (a : Answer) (s t : Store) (all os : List Outcome) (calls : List MadeCall) (b : Bool)
    → is_concern numbers (effect_of call a) ≡ b → HasOutcomes (effect_of call a) s all → GoesThrough s (filter (concerns numbers) all) t
    → OutcomesFrom t calls (filter (concerns numbers) os)
    → OutcomesFrom s ((if b then (call, a) ∷ [] else []) ++ calls) (filter (concerns numbers) (all ++ os))
by_concern numbers call a s t all os calls true e h through rest =
    let first = filter (concerns numbers) all in
    let own = (concern_of numbers (effect_of call a) s all h).0 e in
    (first, t, filter (concerns numbers) os, (in_effect call a s first).1 own, through, rest, filter-append (concerns numbers) all os)
by_concern numbers call a s t all os calls false e h through rest =
    let kept = filter (concerns numbers) os in
    let none : filter (concerns numbers) all ≡ [] = (concern_of numbers (effect_of call a) s all h).1 e in
    let same : s ≡ t = subst (λ (us : List Outcome). GoesThrough s us t) none through in
    let both : filter (concerns numbers) (all ++ os) ≡ kept = filter-append (concerns numbers) all os ∙ ap (λ us. us ++ kept) none in
    subst (λ (us : List Outcome). OutcomesFrom s calls us) (sym both) (subst (λ (u : Store). OutcomesFrom u calls kept) (sym same) rest)

module _ {S : Type 0} (s : SubscriberOf S) where
  abbrev MakesOne : S → OutcomeAt → S → Type 0
  MakesOne x m y = Makes s.registry s.with_registry s.has_form s.stepped s.reloaded x m y

  abbrev Serves : Option Call → KeptCallsites → S → Answer → List OutcomeAt → KeptCallsites → S → Type 0
  Serves o kept x a ms after y = ServesAsked s.registry s.with_registry s.has_form s.stepped s.reloaded o kept x a ms after y

  abbrev Runs : List Answer → List Request → List Answer → List (List OutcomeAt) → KeptCallsites → S → KeptCallsites → S → Type 0
  Runs past rs answers made kept x after y = Run s.registry s.with_registry s.has_form s.stepped s.reloaded past rs answers made kept x after y

  -- an outcome leaves the store that it leaves without any filter, as far as no filter goes
  made_bare : (x : S) (m : OutcomeAt) (y : S) → MakesOne x m y
      → (t : Store) × Steps (form_of_path []) m.outcome (s.registry x).store t × AgreeAt no_filter (s.registry y).store t
  made_bare x m y h =
      let step = steps_alone m.form [] (λ meta before q v said k. refl) m.outcome m.before m.after h.steps in
      let left = left_aside s.registry s.with_registry s.has_form s.stepped s.reloaded x m y h in
      let near = agree_sym no_filter m.after (s.registry y).store (agree_same no_filter m.after (s.registry y).store left) in (
        step.0,
        subst (λ (u : Store). Steps (form_of_path []) m.outcome u step.0) h.before step.1,
        agree_trans no_filter (s.registry y).store m.after step.0 near step.2,
      )

  folds_bare : (x : S) (ms : List OutcomeAt) (y : S) → FoldsTo MakesOne x ms y
      → (t : Store) × GoesThrough (s.registry x).store (map outcome_of ms) t × AgreeAt no_filter (s.registry y).store t
  folds_bare x [] y h =
      let first = (s.registry x).store in
      (first, refl, subst (λ (z : S). AgreeAt no_filter (s.registry z).store first) h (agree_refl no_filter first))
  folds_bare x (m ∷ ms) y h =
      let one = made_bare x m h.0 h.1 in
      let rest = folds_bare h.0 ms y h.2 in
      let on = through_over (map outcome_of ms) (s.registry h.0).store one.0 rest.0 one.2 rest.1 in
      let after = through_agree (map outcome_of ms) (s.registry h.0).store one.0 rest.0 on.0 one.2 rest.1 on.1 in
      (on.0, (one.0, one.1, on.1), agree_trans no_filter (s.registry y).store rest.0 on.0 rest.2 after)

  asked_calls : (numbers : FilterSet) (o : Option Call) (kept : KeptCallsites) (x : S) (a : Answer) (ms : List OutcomeAt) (after : KeptCallsites) (y : S)
      (os : List Outcome) (calls : List MadeCall) → Serves o kept x a ms after y → OutcomesFrom (s.registry y).store calls (filter (concerns numbers) os)
      → OutcomesFrom (s.registry x).store (made_call numbers o a ++ calls) (filter (concerns numbers) (map outcome_of ms ++ os))
  asked_calls numbers None kept x a ms after y os calls h rest =
      subst (λ (ns : List OutcomeAt). OutcomesFrom (s.registry x).store calls (filter (concerns numbers) (map outcome_of ns ++ os))) (sym h.1)
      (subst (λ (z : S). OutcomesFrom (s.registry z).store calls (filter (concerns numbers) os)) h.3 rest)
  asked_calls numbers (Some call) kept x a ms after y os calls h rest =
      let first = (s.registry x).store in
      let all = map outcome_of ms in
      let own = folds_bare x ms y h.2.goes in
      let through = through_concerning numbers all first own.0 own.1 in
      let on = outcomes_over calls (s.registry y).store own.0 (filter (concerns numbers) os) own.2 rest in
      let says = (in_effect call a first all).0 h.2.says in
      by_concern numbers call a first own.0 all os calls (is_concern numbers (effect_of call a)) refl says through on

  -- what was made in a run is what its made calls have by themselves, as far as it concerns filters of these numbers
  run_calls : (past : List Answer) (rs : List Request) (answers : List Answer) (made : List (List OutcomeAt)) (kept : KeptCallsites) (x : S)
      (after : KeptCallsites) (y : S) (numbers : FilterSet) → Runs past rs answers made kept x after y
      → OutcomesFrom (s.registry x).store (made_calls numbers past rs answers) (filter (concerns numbers) (map outcome_of (flat made)))
  run_calls past [] [] [] kept x after y numbers h = refl
  run_calls past (q ∷ rs) (b ∷ answers) (ms ∷ made) kept x after y numbers h =
      let later = past ++ (b ∷ []) in
      let rest = run_calls later rs answers made h.0 h.1 after y numbers h.3 in
      let all = made_calls numbers past (q ∷ rs) (b ∷ answers) in
      subst (λ (os : List Outcome). OutcomesFrom (s.registry x).store all (filter (concerns numbers) os)) (sym (map-append outcome_of ms (flat made)))
      (asked_calls numbers (call_of past q) kept x b ms h.0 h.1 (map outcome_of (flat made)) (made_calls numbers later rs answers) h.2 rest)
  run_calls past other rest made kept x after y numbers h = absurd h

-- ---- what a leaf sees of calls

-- a level that no filter on the path takes makes no difference to them
reloading_other : (n : ℕ) (l : Setting) (cs : Conducts) → numbers_in cs n ≡ false → reloading n l cs ≡ cs
reloading_other n l [] h = refl
reloading_other n l ((None, b) ∷ cs) h = ap (λ ds. (None, b) ∷ ds) (reloading_other n l cs h)
reloading_other n l ((Some m, b) ∷ cs) h =
    let parts = or_parts (filter_numbered (Some m) n) (numbers_in cs n) h in
    ap (λ p. if p then (Some m, after_reload l b) ∷ cs else (Some m, b) ∷ reloading n l cs) parts.0
    ∙ ap (λ ds. (Some m, b) ∷ ds) (reloading_other n l cs parts.1)

level_concerning : (b : Bool) (numbers : FilterSet) (cs : Conducts) (s : Store) (n : ℕ) (l : Setting) (os : List Outcome) (h : Heard)
    → (b ≡ false → reloading n l cs ≡ cs) → (a : Alone cs s (Reloaded n l ∷ os) h) → Alone (reloading n l cs) a.0 (filter (concerns numbers) os) a.1
    → Alone cs s (cond b (Reloaded n l ∷ filter (concerns numbers) os) (filter (concerns numbers) os)) h
level_concerning true numbers cs s n l os h same a rest = (a.0, a.1, a.2, rest, a.4)
level_concerning false numbers cs s n l os h same a rest =
    let own = subst (λ (ds : Conducts). Alone ds a.0 (filter (concerns numbers) os) a.1) (same refl) rest in
    subst (λ (k : Heard). Alone cs s (filter (concerns numbers) os) k) (sym a.4) (subst (λ (t : Store). Alone cs t (filter (concerns numbers) os) a.1) a.2 own)

-- what is seen alone of outcomes is seen of those that concern the filters of the path
alone_concerning : (numbers : FilterSet) (cs : Conducts) (s : Store) (os : List Outcome) (h : Heard) → numbers_in cs ≡ numbers → Alone cs s os h
    → Alone cs s (filter (concerns numbers) os) h
alone_concerning numbers cs s [] h e a = a
alone_concerning numbers cs s (Noticed lane n ∷ os) h e a =
    (a.0, a.1, a.2, alone_concerning numbers (acting cs (Noticed lane n) s a.0) a.0 os a.1 (acting_numbers cs (Noticed lane n) s a.0 ∙ e) a.3, a.4)
alone_concerning numbers cs s (Quiet c ∷ os) h e a = (a.0, a.1, a.2, alone_concerning numbers cs a.0 os a.1 e a.3, a.4)
alone_concerning numbers cs s (Reloaded n l ∷ os) h e a =
    level_concerning (numbers n) numbers cs s n l os h (λ none. reloading_other n l cs ((λ i. e i n) ∙ none)) a
    (alone_concerning numbers (reloading n l cs) a.0 os a.1 (acting_numbers cs (Reloaded n l) s a.0 ∙ e) a.3)

module _ {S : Type 0} (s : SubscriberOf S) (paths : PathsOf s) where
  -- what a leaf sees of served requests it sees of their made calls alone
  seen_calls : SeenAlone (AskedIn s) AloneOf
  seen_calls cs before t calls h m agree =
      let numbers = numbers_in cs in
      let u = (s.registry (stack_of m.old)).store in
      let os = map outcome_of (flat m.served.made) in
      let os_here = filter (concerns numbers) os in
      let near : AgreeAt numbers u t = subst (λ (v : Store). AgreeAt numbers v t) (sym m.at_store) agree in
      let own = subst (λ (ks : List MadeCall). OutcomesFrom u ks os_here) m.at_calls
      (run_calls s [] m.requests m.answers m.served.made (kept_by m.old) (stack_of m.old) (kept_by m.new) (stack_of m.new) numbers m.served.run) in
      let bare = agree_within numbers no_filter u t (none_within numbers) near in
      let heard = passed_at m.position (flat m.served.made) in
      let itself = paths_itself cs (paths.plain (stack_of m.old) m.position cs m.acts) in
      let alone = alone_concerning numbers cs t os heard refl (alone_over cs cs u t os heard itself near (m.served.alone m.position cs m.acts)) in
      (os_here, outcomes_over calls u t os_here bare own, subst (λ (k : Heard). Alone cs t os_here k) m.sees alone)

  -- so where what is seen of calls alone is fixed, it is the same
  seen_both : (Other : Sight (List MadeCall)) → SeeTheSame AloneOf AloneOf → SeenAlone Other AloneOf → SeeTheSame (AskedIn s) Other
  seen_both Other law other cs ds before t calls h k a b p agree =
      law cs ds before t calls h k (seen_calls cs before before calls h a (agree_refl (numbers_in cs) before))
      (other ds t t calls k b (agree_refl (numbers_in ds) t)) p agree

-- of the same calls the same is seen in two stacks, and alone
pub calls_same : {S T : Type 0} (one : SubscriberOf S) (other : SubscriberOf T) → PathsOf one → PathsOf other → InStoreWhile → NeverBoth → OneClosure
    → CallsSeenTheSame one other
calls_same one other paths others while never once =
    let alone = one_alone_of while never once in record {
      calls = alone;
      requests = seen_both one paths (AskedIn other) alone (seen_calls other others);
      requests_alone = seen_calls one paths;
      says = λ numbers rs answers made kept after x y h. run_calls one [] rs answers made kept x after y numbers h;
    }
