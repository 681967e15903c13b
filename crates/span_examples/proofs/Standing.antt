-- Honest stacks: that they are ready, and what a recorder in them keeps.
use Rattle.std.proofs.Common.{inl, inr, arith, ◌≡◌, ◌∙◌, ◌+◌, ◌<◌, ◌≤◌, ℕ, List, [], ◌∷◌, true, Bool, Option, None, Some, Result, Ok, Err, IfOk, ap, map, refl}
use Rattle.std.proofs.Common.{subst, sym}
use Rattle.std.proofs.lemmas.List.{length-map}
use Rattle.std.specs.FinMap.{get}
use Rattle.std.specs.List.{find}
use Rattle.std.specs.Option.{option_map, option_map_or}
use Rattle.std.specs.Prelude.{IfSome, false, if◌then◌else◌, is_some, length, not}
use Rattle.std.proofs.lemmas.Bool.{false≢true}
use Rattle.span_core.specs.declared.filter.TheConstants.FilterId.{LIMIT}
use Rattle.span_core.specs.declared.level.LevelFilter.{LevelFilter}
use Rattle.span_core.specs.declared.metadata.Metadata.{Metadata}
use Rattle.span_core.specs.declared.span.Attributes.{Attributes}
use Rattle.span_core.specs.declared.span.Id.{Id}
use Rattle.span_core.specs.declared.span.Lane.{Lane}
use Rattle.span_dispatch.proofs.CallerLemmas.{heard_records}
use Rattle.span_dispatch.specs.Alone.{passed_at}
use Rattle.span_dispatch.specs.Call.{span_answer, yes_answer}
use Rattle.span_dispatch.specs.declared.call.Call.{Call}
use Rattle.span_dispatch.specs.declared.call.Call.TheVariants.{DropHandle, OpenSpan}
use Rattle.span_dispatch.specs.Contract.{AnswersCall, AnswersDrop, StaysReady, SubscriberOf}
use Rattle.span_dispatch.specs.declared.dispatch.Dispatch.{Dispatch}
use Rattle.span_dispatch.specs.declared.request.Answer.TheVariants.{Dropped, Made, Yes}
use Rattle.span_dispatch.specs.declared.request.Answer.{Answer}
use Rattle.span_dispatch.specs.Recorder.{RecorderState, Records, kept_notice, new_recorder}
use Rattle.span_dispatch.specs.Serve.{IsReady, flat, stack_of}
use Rattle.span_dispatch.specs.declared.request.Request.{Request}
use Rattle.span_stacks.proofs.CallerLemmas.{bare_stands, stands_on}
use Rattle.span_stacks.specs.Attach.{Attaches}
use Rattle.span_stacks.specs.Honest.{IsBuiltLayer, IsHonestLayer, IsHonestStack}
use Rattle.span_filters.specs.Closure.{AnswersAll, Computes, GoesByWhatShows, HasTestAnswers, RefusesAbove, TestsBy, interest_under, test_answers, view_answers}
use Rattle.span_filters.specs.declared.closure.FilterFn.{FilterFn}
use Rattle.span_filters.specs.Filter.{FilterLaws, FilterSteps}
use Rattle.span_stacks.specs.Filtered.{IsNumber, IsUnnumbered, id_of}
use Rattle.span_stacks.specs.Layered.{inner_of, outer_of, with_inner}
use Rattle.span_layers.specs.Members.{ListForm}
use Rattle.span_layers.specs.Number.{filters_in, numbered}
use Rattle.span_layers.specs.Observe.{open_answers}
use Rattle.span_stacks.specs.Stands.{Stands, another, base_form, filtered_form, itself, registry_on, stack_form}
use Rattle.span_stacks.specs.Verdict.{LeavesRefuseNothing, NumbersStayOwn}
use Rattle.span_stacks.specs.declared.filtered.Filtered.{Filtered as FilteredLayer}
use Rattle.span_stacks.specs.declared.layered.Layered.{Layered}
use Rattle.span_layers.specs.laws.Leaf.{open_honest}
use Rattle.span_store.specs.Closes.{HasNoClosing}
use Rattle.span_store.specs.Store.{RegistryState, Store, empty_store, new_registry}
use Rattle.span_store.specs.LaneStack.{without_duplicates}
use Rattle.span_store.specs.declared.limits.Limits.{Limits}
use Rattle.span_registry.proofs.CallerLemmas.{settled_new}
use Rattle.span_registry.proofs.Agreeing.{agree_refl}
use Rattle.span_registry.specs.Behaviour.{Behaviour, AreAlike, ArePlain, Conduct, unextended}
use Rattle.span_registry.specs.Conducts.{Conducts, numbers_in}
use Rattle.span_registry.specs.Form.{Terminal, Base, End, Filtered, Form, InList, Leaf, OnSubscriber, Parts}
use Rattle.span_registry.specs.Hooks.{StackSteps}
use Rattle.span_registry.specs.Reload.{ReloadSteps}
use Rattle.span_registry.specs.Position.{Heard, Here, Outer, Position, Under}
use Rattle.span_registry.specs.View.{SeenSpan, SeenSpans, View, current_among, current_shown}
use Rattle.span_promises.specs.Isolation.{SeenAlone, SeesCalls}
use Rattle.span_promises.specs.MadeCall.{AloneOf, made_calls}
use Rattle.span_examples.proofs.Recorded.{keeps_all}
use Rattle.span_examples.specs.Chain.{AnswersReady, OpensAndDrops}
use Rattle.span_examples.specs.Isolation.{WithAnswers}
use Rattle.span_examples.specs.Kinds.{CountsAlone, CountsUnder, IsCounted, IsFit, IsReadyNow, RecordsAlone, RecordsUnder, ServesReady, UnderFilter, WillRecord}
use Rattle.span_examples.specs.Kinds.{in_a_span, recorder_under}

-- an honest stack on a registry without spans is ready
pub is_ready : {S : Type 0} {registry : S → RegistryState}
    {with_registry : S → RegistryState → S} {has_form : S → Form → Type 0} {stepped : StackSteps S} {reloaded : ReloadSteps S} (f : Form) (n : ℕ) (x : S)
    → Stands registry has_form f n x → IsReady registry with_registry has_form stepped reloaded f x
is_ready {registry = registry} f n x h = record {
  honest = record { has = h.has; rules = subst (IsHonestStack f) (sym h.filters) h.rules };
  settled = subst HasNoClosing (sym (ap (λ (s : Store). s.spans) h.empty)) (settled_new (registry x).limits);
}

-- a leaf that wants everything keeps a stack honest
pub open_layer : IsHonestLayer (Leaf true open_answers)
open_layer = inr (refl, open_honest, λ t. absurd (false≢true t))

-- so does a layer that is such a leaf
pub open_fit : {L : Type 0} {has_form : L → Form → Type 0} (x : L) → has_form x (Leaf true open_answers) → IsFit has_form x
open_fit x h = record { form = Leaf true open_answers; has = h; honest = open_layer; room = omega arith }

-- and a list of two
abbrev two_open : Form
two_open = Parts InList (Leaf true open_answers) (Parts InList (Leaf true open_answers) (Terminal End))

pub open_quiet : LeavesRefuseNothing (Leaf true open_answers)
open_quiet = record { enabled = λ m v. refl; event = λ e v. refl }

-- also within a filter or a list
pub open_within : IsBuiltLayer true (Leaf true open_answers)
open_within = (refl, open_honest, λ t. open_quiet)

pub two_fit : {L X : Type 0} (has_form : L → Form → Type 0) (items : X → List L) (v : X) (x y : L)
    → items v ≡ x ∷ y ∷ [] → has_form x (Leaf true open_answers) → has_form y (Leaf true open_answers) → IsFit (λ w. ListForm has_form (items w)) v
two_fit has_form items v x y e h k = record {
  form = two_open;
  has = subst (λ xs. ListForm has_form xs two_open) (sym e) (refl, h, (refl, k, refl));
  honest = inr (open_within, inr (open_within, inl refl));
  room = omega arith;
}

-- ---- a recorder outside a layer

-- the stack of the layer
abbrev pub On : Type 0 → Type 0
On L = Layered L RegistryState

module _ {L : Type 0} {has_form : L → Form → Type 0}
    (law : NumbersStayOwn) (layer : L) (fit : IsFit has_form layer) (l : Limits) (s : RegistryState) (new : s ≡ new_registry l) where
  -- a new registry has room for it
  pub finds_room : ((f : Form) → has_form layer f → LIMIT < s.filters + filters_in f) → ⊥
  finds_room full =
      let none : s.filters ≡ 0 = ap (λ (t : RegistryState). t.filters) new in
      let more = full fit.form fit.has in
      let room = fit.room in
      omega (arith, none, more, room)

  pub put_on : {usable : L → Type 0} {attached : L → L → Type 0} {inner_usable : RegistryState → Type 0} (x : On L)
      → Attaches itself another inner_usable usable has_form attached layer s x
      → Stands (registry_on itself) (stack_form has_form base_form) (Parts OnSubscriber (numbered fit.form 0).0 (Terminal Base)) (numbered fit.form 0).1 x
  put_on x put = stands_on law (λ t w. refl) (λ t w f h. h) fit.form (Terminal Base) 0 layer s x fit.has fit.honest (bare_stands l s new) put

  -- and that has room for a recorder
  pub leaves_room : {usable : L → Type 0} {attached : L → L → Type 0} {inner_usable : RegistryState → Type 0} (x : On L)
      → Attaches itself another inner_usable usable has_form attached layer s x
      → ((f : Form) → f ≡ Leaf true open_answers → LIMIT < (inner_of x).filters + filters_in f) → ⊥
  leaves_room x put full =
      let filters : (inner_of x).filters ≡ (numbered fit.form 0).1 = (put_on x put).filters in
      let start : 0 + filters_in fit.form ≤ LIMIT = let room = fit.room in omega (arith, room) in
      let next : (numbered fit.form 0).1 ≡ 0 + filters_in fit.form = (law fit.form 0 start).next in
      let more : LIMIT < (inner_of x).filters + 0 = full (Leaf true open_answers) refl in
      omega (arith, filters, next, more, start)

  pub put_over : {usable : L → Type 0} {attached : L → L → Type 0} {inner_usable : RegistryState → Type 0}
      {below_usable : On L → Type 0} {recorder_usable : RecorderState → Type 0} (x : On L) (recorder : RecorderState) (y : Layered RecorderState (On L))
      → Attaches itself another inner_usable usable has_form attached layer s x
      → Attaches (registry_on itself) with_inner below_usable recorder_usable (λ r f. f ≡ Leaf true open_answers) (λ r q. q ≡ r) recorder x y
      → Stands (registry_on (registry_on itself)) (stack_form (λ r f. f ≡ Leaf true open_answers) (stack_form has_form base_form))
      (Parts OnSubscriber (Leaf true open_answers) (Parts OnSubscriber (numbered fit.form 0).0 (Terminal Base))) (numbered fit.form 0).1 y
  put_over x recorder y put second = stands_on law (λ t w. refl) (λ t w f h. h) (Leaf true open_answers)
      (Parts OnSubscriber (numbered fit.form 0).0 (Terminal Base)) (numbered fit.form 0).1 recorder x y refl open_layer (put_on x put) second

-- ---- what a recorder keeps

-- a recorder that is new, stays new in use and keeps what it hears, under filters that then act so, will record so
pub records_alone : {S : Type 0} (s : SubscriberOf S) → SeenAlone (SeesCalls s.registry s.with_registry s.has_form s.stepped s.reloaded s.hears s.acts_at)
    AloneOf → (position : Position) (recorder : S → RecorderState) (cs : Conducts) (x : S)
    → recorder x ≡ new_recorder → ((y : S) → s.registered x y → (recorder y ≡ recorder x) × s.acts_at y position cs)
    → ((y z : S) (h : Heard) → s.hears y position h z → Records (recorder y) (recorder z) (map kept_notice h)) → WillRecord s position recorder cs x
records_alone s law position recorder cs x new used hears requests done h =
    let y = stack_of h.first in
    let z = stack_of done.0 in
    let in_use = used y h.in_use in
    let made = flat h.served.made in
    let calls : SeesCalls s.registry s.with_registry
    s.has_form s.stepped s.reloaded s.hears s.acts_at cs empty_store (made_calls (numbers_in cs) [] requests done.1.items) (passed_at position made) = record {
      old = h.first;
      new = done.0;
      requests = requests;
      answers = done.1.items;
      served = h.served;
      position = position;
      acts = in_use.1;
      at_store = h.empty;
      at_calls = refl;
      sees = refl;
    } in
    record {
      stack = x;
      serves = h;
      kept = subst (λ (r : RecorderState). Records r (recorder z) (map kept_notice (passed_at position made)))
          (in_use.0 ∙ new) (hears y z (passed_at position made) (h.served.each position));
      alone = law cs empty_store
          empty_store (made_calls (numbers_in cs) [] requests done.1.items) (passed_at position made) calls (agree_refl (numbers_in cs) empty_store);
    }

-- so it has recorded so, where it served
pub recorded : {S E : Type 0} {s : SubscriberOf S} {position : Position} {recorder : S → RecorderState}
    {cs : Conducts} {x : S} (requests : List Request) (r : Result (WithAnswers S) E) → WillRecord s position recorder cs x → IfOk r (ServesReady s x requests)
    → IfOk r (RecordsAlone s position recorder cs requests)
recorded requests (Ok done) will h = will requests done h
recorded requests (Err e) will h = tt

-- ---- a recorder under a filter

module _ {F : Type 0} {has_answers : F → Behaviour → Type 0} {hooked : FilterSteps F} {acts : F → Conduct → Type 0}
    (laws : FilterLaws has_answers hooked acts) (law : NumbersStayOwn) (filter : F) (answers : Behaviour) (has : has_answers filter answers)
    (u : FilteredLayer RecorderState F) (recorder : RecorderState) (unnumbered : IsUnnumbered u recorder filter) where
  -- its form has honest answers
  abbrev pub fits : IsFit (filtered_form has_answers (λ (r : RecorderState) f. f ≡ Leaf true open_answers)) u
  fits = record {
    form = Filtered None answers (Leaf true open_answers);
    has = (unnumbered.id, subst (λ g. has_answers g answers) (sym unnumbered.own) has, refl);
    honest = inr (laws.honest filter answers has, open_within);
    room = omega arith;
  }

  -- on a new registry it takes the number 0
  pub takes_first : (l : Limits) (s : RegistryState) → s ≡ new_registry l
      → {usable : FilteredLayer RecorderState F → Type 0} {attached : FilteredLayer RecorderState F → FilteredLayer RecorderState F → Type 0}
      {inner_usable : RegistryState → Type 0} (x : UnderFilter F)
      → Attaches itself another inner_usable usable (filtered_form has_answers (λ (r : RecorderState) f. f ≡ Leaf true open_answers)) attached u s x
      → IsNumber (id_of (outer_of x)) (Some 0)
  takes_first l s new x put = (put_on law u fits l s new x put).has.1.0

-- ---- single calls

module _ {S : Type 0} (s : SubscriberOf S) where
  -- a dispatcher that was ready is ready again
  pub stays_ready : {old new : Dispatch S} → StaysReady s old new → IsReadyNow s old → IsReadyNow s new
  stays_ready stays h = let r = stays.again h.0 h.1 in (r.0, r.1)

  -- and answered as it promises of an honest stack
  pub answers_ready : {call : Call} {old new : Dispatch S} (a : Answer)
      → AnswersCall s call a old new → StaysReady s old new → IsReadyNow s old → AnswersReady s call a old new
  answers_ready {old = old} a answered stays h = record {
    form = h.0;
    served = answered h.0 h.1.stack.honest h.1.kept;
    next = stays_ready stays h;
  }

  -- so it did a drop
  pub drops_ready : {call : Call} {old new : Dispatch S} (a : Answer)
      → AnswersDrop s call a old new → StaysReady s old new → IsReadyNow s old → AnswersReady s call a old new
  drops_ready a answered stays h = answers_ready a (answered h.1.stack.settled) stays h

  -- a span that was opened, of which the handle was then dropped
  pub opens_and_drops : (lane : Lane) (attrs : Attributes) (id : Id) (o : Option Id) (closed : Bool) (old between new : Dispatch S)
      → o ≡ Some id → AnswersCall s (OpenSpan lane attrs) (span_answer (Ok o)) old between → StaysReady s old between
      → AnswersDrop s (DropHandle lane id) (yes_answer (Ok closed)) between new → StaysReady s between new → OpensAndDrops s lane attrs old new (Some id)
  opens_and_drops lane attrs id o closed old between new is opened stays dropped still h =
      let first = answers_ready (Made id) (subst (λ p. AnswersCall s (OpenSpan lane attrs) (span_answer (Ok p)) old between) is opened) stays h in
      (between, first, (closed, drops_ready (Yes closed) dropped still first.next))

  -- and one that wasn't opened
  pub opens_nothing : (lane : Lane) (attrs : Attributes) (o : Option Id) (old new : Dispatch S)
      → o ≡ None → AnswersCall s (OpenSpan lane attrs) (span_answer (Ok o)) old new → StaysReady s old new → OpensAndDrops s lane attrs old new None
  opens_nothing lane attrs o old new is opened stays h =
      answers_ready Dropped (subst (λ p. AnswersCall s (OpenSpan lane attrs) (span_answer (Ok p)) old new) is opened) stays h

-- ---- under a closure

-- a filter that was made of a test alone has the answers of the test
pub tested : {F : Type 0} (gives : F → Metadata → Bool → Type 0) (f : FilterFn F) (g : F) (test : Metadata → Bool)
    → TestsBy f g None → AnswersAll gives g → Computes gives g test → GoesByWhatShows test → HasTestAnswers gives f (test_answers test None)
tested gives f g test made all computes shown = record {
  test = test;
  all = subst (AnswersAll gives) (sym made.enabled) all;
  computed = subst (λ h. Computes gives h test) (sym made.enabled) computes;
  shown = shown;
  refuses = subst (λ (h : Option LevelFilter). RefusesAbove test h) (sym made.max_level_hint) (λ m e. absurd (cc));
  answers = ap (test_answers test) (sym made.max_level_hint);
}

-- what was recorded, by its number
pub counts_alone : {S : Type 0} (s : SubscriberOf S) (position : Position) (recorder : S → RecorderState)
    (cs : Conducts) (requests : List Request) (done : WithAnswers S) (o : Option ℕ) → RecordsAlone s position recorder cs requests done
    → IsCounted (recorder (stack_of done.0)) o → CountsAlone cs requests (done.1, o)
counts_alone s position recorder cs requests done o r c =
    let heard = passed_at position (flat r.serves.served.made) in
    record {
      heard = heard;
      alone = r.alone;
      count = counted_by (recorder (stack_of done.0)) heard o r.kept c;
    }
  where
    counted_by : (q : RecorderState) (heard : Heard) (p : Option ℕ)
        → Records new_recorder q (map kept_notice heard) → IsCounted q p → IfSome p (λ n. n ≡ length heard)
    counted_by q heard None kept counted = tt
    counted_by q heard (Some n) kept counted = counted.1 ∙ ap length (keeps_all q (map kept_notice heard) kept counted.0) ∙ length-map heard kept_notice

pub counts_under : {F : Type 0} (s : SubscriberOf (UnderFilter F)) (b : Conduct) (requests : List Request) (done : WithAnswers (UnderFilter F)) (o : Option ℕ)
    → RecordsUnder s b requests done → IsCounted (recorder_under (stack_of done.0)) o → CountsUnder b requests (done.1, o)
counts_under s b requests done o r c = counts_alone s (Outer (Under Here)) recorder_under ((Some 0, b) ∷ []) requests done o r c

-- ---- under a closure that asks for the current span

module _ (m n : SeenSpans) (same : (x : ℕ) → option_map unextended (get m x) ≡ option_map unextended (get n x)) where
  shown_so : (o p : Option SeenSpan)
      → option_map unextended o ≡ option_map unextended p → option_map_or (λ r. not r.hidden) o false ≡ option_map_or (λ r. not r.hidden) p false
  shown_so None None h = refl
  shown_so None (Some q) h = let no : ⊥ = cc in absurd no
  shown_so (Some r) None h = let no : ⊥ = cc in absurd no
  shown_so (Some r) (Some q) h = ap (λ (o : Option SeenSpan). option_map_or (λ r. not r.hidden) o false) h

  there_so : (o p : Option SeenSpan) → option_map unextended o ≡ option_map unextended p → is_some o ≡ is_some p
  there_so None None h = refl
  there_so None (Some q) h = let no : ⊥ = cc in absurd no
  there_so (Some r) None h = let no : ⊥ = cc in absurd no
  there_so (Some r) (Some q) h = refl

  current_so : (xs : List ℕ) → current_among m xs ≡ current_among n xs
  current_so [] = refl
  current_so (x ∷ xs) = λ i. if there_so (get m x) (get n x) (same x) i then find (λ y. shown_so (get m y) (get n y) (same y) i) (x ∷ xs) else None

-- views that differ in extensions alone show the same current span
current_alike : (v w : View) → AreAlike v w → current_shown v ≡ current_shown w
current_alike v w h = current_so v.spans w.spans h.spans (without_duplicates v.stack) ∙ ap (λ xs. current_among w.spans (without_duplicates xs)) h.stack

-- so its answers are plain
pub in_span_plain : ArePlain (view_answers in_a_span (interest_under None) None)
in_span_plain = record { enabled = λ m v w e. ap is_some (current_alike v w e); event = λ e v w d. refl }
