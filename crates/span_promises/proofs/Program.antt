-- A span, entered and left, with an event in it: what two recorders under INFO and WARN keep of it.
use Rattle.std.proofs.Common.{inl, inr, ◌==◌, ◌||◌, ◌&&◌, ◌⊎◌, ◌≡◌, ◌∙◌, ◌-◌, ◌<◌, arith, ℕ, Bool, true, false, if◌then◌else◌, List, [], ◌∷◌, ◌++◌, map, Option}
use Rattle.std.proofs.Common.{Some, None, ap, refl, subst, sym}
use Rattle.std.proofs.lemmas.Bool.{eqb-true, false≢true, true≢false}
use Rattle.std.proofs.lemmas.List.{append-nil, map-append}
use Rattle.std.specs.Borrow.{Bor}
use Rattle.std.specs.FinMap.{empty, get, get-empty, insert}
use Rattle.std.specs.List.{FoldsTo}
use Rattle.std.specs.Option.{option_map}
use Rattle.std.specs.Ordering.{eq_by_cmp, nat_cmp}
use Rattle.std.specs.Prelude.{⊤}
use Rattle.span_core.specs.Event.{event_of}
use Rattle.span_core.specs.Metadata.{callsite_of, level_of}
use Rattle.span_core.specs.Level.{passes_level}
use Rattle.span_core.specs.Span.{attributes_of, number_of}
use Rattle.span_core.specs.declared.field.FieldValue.{FieldValue}
use Rattle.span_core.specs.declared.filter.TheConstants.FilterId.{LIMIT}
use Rattle.span_core.specs.declared.level.TheConstants.Level.{INFO, WARN}
use Rattle.span_core.specs.declared.level.TheConstants.LevelFilter as filter
use Rattle.span_core.specs.declared.metadata.Metadata.{Metadata}
use Rattle.span_core.specs.declared.span.Attributes.{Attributes}
use Rattle.span_core.specs.declared.span.Id.{Id}
use Rattle.span_core.specs.declared.span.Lane.{Lane}
use Rattle.span_core.specs.declared.span.Parent.TheVariants.{Contextual}
use Rattle.span_dispatch.proofs.CallerLemmas.{next_served, none_served, seen_append}
use Rattle.span_dispatch.proofs.Goes.{left_aside}
use Rattle.span_dispatch.specs.Alone.{passed, passed_at}
use Rattle.span_dispatch.specs.Cache.{KeptCallsites}
use Rattle.span_dispatch.specs.Call.{DropsHandle}
use Rattle.span_dispatch.specs.private.Step.{closes_of}
use Rattle.span_dispatch.specs.Outcome.{HandleTaken, IsVerdict, Noticed, Opened, Outcome, OutcomeAt, Quiet, Steps, given_in}
use Rattle.span_dispatch.specs.Readable.{ClosesAsItOpened}
use Rattle.span_dispatch.specs.Recorder.{kept_notice, kept_on}
use Rattle.span_dispatch.specs.Serve.{Formed, flat, resolved}
use Rattle.span_dispatch.specs.declared.call.Call.TheVariants.{DropHandle, Enter, Exit}
use Rattle.span_dispatch.specs.declared.recorded.Recorded.TheVariants as kept
use Rattle.span_dispatch.specs.declared.recorded.Recorded.{Recorded}
use Rattle.span_dispatch.specs.declared.request.Answer.TheVariants as answer
use Rattle.span_dispatch.specs.declared.request.Answer.{Answer}
use Rattle.span_dispatch.specs.declared.request.Request.TheVariants as request
use Rattle.span_dispatch.specs.declared.request.Request.{Request}
use Rattle.span_dispatch.specs.declared.request.Which.TheVariants as which
use Rattle.span_dispatch.specs.declared.request.WhichParent.TheVariants as asked
use Rattle.span_filters.specs.Level.{level_answers}
use Rattle.span_stacks.specs.Verdict.{AreDistinct, in_verdict, numbers_of}
use Rattle.span_store.proofs.Chains.{get_beside, get_put, same_test, test_same}
use Rattle.span_store.specs.Closes.{AreUnheld, Closes, IsUnheld, Member}
use Rattle.span_store.specs.Step.{IsParentFor}
use Rattle.span_store.specs.Store.{IsOpen, RegistryState, Span, Spans, Store, empty_store, take_handle, with_handles}
use Rattle.span_registry.specs.Behaviour.{Notice, OnClose, OnEnter, OnEvent, OnExit, OnNewSpan}
use Rattle.span_registry.specs.Form.{Form}
use Rattle.span_registry.specs.Hooks.{no_filter}
use Rattle.span_registry.specs.laws.Form.{own_rules}
use Rattle.span_registry.specs.Path.{Path, mask_of, passes_path, path_at}
use Rattle.span_registry.specs.Position.{Position, told_in}
use Rattle.span_promises.proofs.Stack.{form_by, inner_place, outer_place}
use Rattle.span_promises.proofs.Wanted.{AskedIn, MakesIn, RunIn, ServesIn, form_after, form_goes, request_form, request_kept}
use Rattle.span_promises.specs.Program.{HasRefusal}
use Rattle.span_promises.specs.Promises.{Levels, levels_after}
use Rattle.span_dispatch.specs.private.Fixed.{set_at}

abbrev Values : Type 0
Values = Bor (List (Bor (List ℕ) × FieldValue))

-- the levels, and the form
abbrev now : Levels
now = (filter.INFO, filter.WARN)

abbrev form : Form
form = form_by now

abbrev outer_path : Path
outer_path = (Some 0, level_answers filter.INFO) ∷ []

abbrev inner_path : Path
inner_path = (Some 1, level_answers filter.WARN) ∷ []

-- ---- what is kept of one notice

kept_gate : (b : Bool) (e : Notice) (u : Store) (n : ℕ) (path : Path)
    → map kept_notice ((if b then told_in e u n (mask_of path no_filter) ∷ [] else []) ++ []) ≡ (if b then kept_on n e ∷ [] else [])
kept_gate true e u n path = refl
kept_gate false e u n path = refl

abbrev kept_from : Position → List OutcomeAt → List Recorded
kept_from position ms = map kept_notice (passed_at position ms)

kept_one : (position : Position) (m : OutcomeAt) (path : Path) (lane : Lane) (e : Notice) (b : Bool) → m.outcome ≡ Noticed lane e
    → path_at m.form position ≡ Some path → passes_path path e m.before lane.0 no_filter ≡ b
    → kept_from position (m ∷ []) ≡ (if b then kept_on lane.0 e ∷ [] else [])
kept_one position m path lane e b is at pass =
    (λ i. map kept_notice (passed (at i) (is i) m.before m.after ++ []))
    ∙ kept_gate (passes_path path e m.before lane.0 no_filter) e (given_in e m.before m.after) lane.0 path
    ∙ ap (λ c. if c then kept_on lane.0 e ∷ [] else []) pass

kept_append : (position : Position) (ms ns : List OutcomeAt) → kept_from position (ms ++ ns) ≡ kept_from position ms ++ kept_from position ns
kept_append position ms ns = ap (map kept_notice) (seen_append position ms ns) ∙ map-append kept_notice (passed_at position ms) (passed_at position ns)

-- one notice was made
pub record MadeOne (lane : Lane) (e : Notice) (t : Formed) (ms : List OutcomeAt) (y : Formed) : Type 0 where
  pub one : OutcomeAt
  pub all : ms ≡ one ∷ []
  pub outcome : one.outcome ≡ Noticed lane e
  pub makes : MakesIn t one y

made_one : (lane : Lane) (e : Notice) (t : Formed) (ms : List OutcomeAt) (y : Formed) → map (λ m. m.outcome) ms ≡ Noticed lane e ∷ []
    → FoldsTo MakesIn t ms y → MadeOne lane e t ms y
made_one lane e t [] y is h = let no : ⊥ = cc in absurd no
made_one lane e t (m ∷ []) y is h = record { one = m; all = refl; outcome = cc; makes = subst (λ z. MakesIn t m z) h.2 h.1 }
made_one lane e t (m ∷ n ∷ ms) y is h = let no : ⊥ = cc in absurd no

spans_after : (t : Formed) (m : OutcomeAt) (y : Formed) → MakesIn t m y → y.0.store.spans ≡ m.after.spans
spans_after t m y h =
    (left_aside (λ (r : Formed). r.0) (λ r w. (w, r.1)) (λ r h. h ≡ r.1) (λ r p e lane v q w. q.1 ≡ r.1) (λ r n l q. q.1 ≡ set_at n l r.1) t m y h).spans

-- ---- one span in the store

-- it alone is in the store
abbrev HasOnly : Id → Span → RegistryState → Type 0
HasOnly id r s = s.store.spans ≡ insert empty (number_of id) r

there : (id : Id) (r : Span) (m : Spans) → m ≡ insert empty (number_of id) r → get m (number_of id) ≡ Some r
there id r m h = ap (λ (k : Spans). get k (number_of id)) h ∙ get_put empty (number_of id) r

-- a request left it there, and the recorders keep this of it
pub record Leaves (id : Id) (r : Span) (more most : List Recorded) (ms : List OutcomeAt) (y : Formed) : Type 0 where
  pub has : HasOnly id r y.0
  pub outer : kept_from outer_place ms ≡ more
  pub inner : kept_from inner_place ms ≡ most

-- of its close the outer recorder is told, and the inner one isn't; and so of all that becomes of it before
pub record IsTold (id : Id) (r : Span) : Type 0 where
  pub outer : (t : Store) (q : Span) (lane : Lane) → get t.spans (number_of id) ≡ Some q → q.verdict ≡ r.verdict
      → passes_path outer_path (OnClose id) t lane.0 no_filter ≡ true
  pub inner : (t : Store) (q : Span) (lane : Lane) → get t.spans (number_of id) ≡ Some q → q.verdict ≡ r.verdict
      → passes_path inner_path (OnClose id) t lane.0 no_filter ≡ false

-- a refusal, or this
abbrev OrRefused : Answer → Type 0 → Type 0
OrRefused (answer.Refused e) P = ⊤
OrRefused a P = P

-- ---- the span is made

none_open : (x : ℕ) → IsOpen empty x → ⊥
none_open x h = let gone : Some h.0 ≡ None = sym h.1 ∙ get-empty nat_cmp x in let no : ⊥ = cc in no

-- in an empty store there is no parent
root : (s : Store) (lane : Lane) (p : Option ℕ) → s ≡ empty_store → IsParentFor s lane Contextual p → p ≡ None
root s lane None e h = refl
root s lane (Some x) e h = absurd (none_open x (subst (λ (u : Store). IsOpen u.spans x) e h.1))

pub record MadeSpan (lane : Lane) (a : Answer) (ms : List OutcomeAt) (y : Formed) : Type 0 where
  pub id : Id
  pub span : Span
  pub answered : a ≡ answer.Made id
  pub handles : span.handles ≡ 1
  pub told : IsTold id span
  pub leaves : Leaves id span (kept.New lane id ∷ []) [] ms y

small : (k : ℕ) (a b : Bool) → (k == 0) ≡ a → (k == 1) ≡ b → (((a || false) || (b || false)) || false) ≡ true → k < LIMIT
small k true b e f h = let same = eqb-true k 0 e in omega (arith, same)
small k false true e f h = let same = eqb-true k 1 f in omega (arith, same)
small k false false e f h = absurd (false≢true h)

module _ (law : ClosesAsItOpened) (lane : Lane) (m : Metadata) (values : Values) (level : level_of m ≡ INFO) (memory : KeptCallsites) (s : RegistryState)
    (none : s.store ≡ empty_store) where
  abbrev attrs : Attributes
  attrs = attributes_of m values Contextual

  outer_passes : (passes_level filter.INFO (level_of m) && true) ≡ true
  outer_passes = ap (λ l. passes_level filter.INFO l && true) level

  inner_passes : (passes_level filter.WARN (level_of m) && true) ≡ false
  inner_passes = ap (λ l. passes_level filter.WARN l && true) level

  made : (id : Id) (ms : List OutcomeAt) (y : Formed) → MadeOne lane (OnNewSpan attrs id) (s, form) ms y → MadeSpan lane (answer.Made id) ms y
  made id ms y h =
      let n = h.one in
      let steps : Opened n.form lane attrs id n.before n.after = subst (λ o. Steps n.form o n.before n.after) h.outcome h.makes.steps in
      let before : n.before ≡ empty_store = h.makes.before ∙ none in
      let same : n.form ≡ form = h.makes.honest.has in
      let r : Span = record { metadata = m; parent = steps.parent; handles = 1; verdict = steps.verdict } in
      let verdict : IsVerdict form m n.before lane steps.verdict = λ k. steps.refused k ∙ ap (λ g. in_verdict g m n.before lane.0 no_filter k) same in
      let distinct : AreDistinct form = subst AreDistinct same h.makes.honest.rules.numbers.distinct in
      let below : (k : ℕ) → numbers_of form k ≡ true → k < LIMIT = λ k e. small k (k == 0) (k == 1) refl refl e in
      record {
        id = id;
        span = r;
        answered = refl;
        handles = refl;
        told = record {
          outer = λ t q later at is. law form form outer_place outer_path outer_path attrs id q n.before t lane later distinct below (own_rules form) refl
              refl (subst (IsVerdict form m n.before lane) (sym is) verdict) at ∙ outer_passes;
          inner = λ t q later at is. law form form inner_place inner_path inner_path attrs id q n.before t lane later distinct below (own_rules form) refl
              refl (subst (IsVerdict form m n.before lane) (sym is) verdict) at ∙ inner_passes;
        };
        leaves = record {
          has = spans_after (s, form) n y h.makes ∙ ap (λ (u : Store). u.spans) steps.state ∙ ap (λ (u : Store). insert u.spans (number_of id) r) before;
          outer = ap (kept_from outer_place) h.all
              ∙ kept_one outer_place n outer_path lane (OnNewSpan attrs id) true h.outcome (ap (λ g. path_at g outer_place) same) outer_passes;
          inner = ap (kept_from inner_place) h.all
              ∙ kept_one inner_place n inner_path lane (OnNewSpan attrs id) false h.outcome (ap (λ g. path_at g inner_place) same) inner_passes;
        };
      }

  span_made : (a : Answer) (ms : List OutcomeAt) (after : KeptCallsites) (y : Formed)
      → ServesIn [] (request.NewSpan lane m asked.Contextual values) memory (s, form) a ms after y → OrRefused a (MadeSpan lane a ms y)
  span_made (answer.Made id) ms after y h = made id ms y (made_one lane (OnNewSpan attrs id) (s, form) ms y h.2.says h.2.goes)
  span_made answer.Dropped ms after y h =
      absurd (request_kept now [] (request.NewSpan lane m asked.Contextual values) memory s answer.Dropped ms after y h
      (ap (λ l. passes_level filter.INFO l || passes_level filter.WARN l) level) refl)
  span_made (answer.Refused e) ms after y h = tt
  span_made answer.Done ms after y h = absurd h.2.says
  span_made (answer.Yes b) ms after y h = absurd h.2.says
  span_made (answer.Current o) ms after y h = absurd h.2.says

-- ---- what leaves the spans

-- of a notice that leaves all spans, given where that span alone is in the store, the recorders keep what passes them
quiet : (id : Id) (r : Span) (lane : Lane) (e : Notice) (s : RegistryState) (ms : List OutcomeAt) (y : Formed) (b c : Bool) → HasOnly id r s
    → ((f : Form) (u v : Store) → Steps f (Noticed lane e) u v → v.spans ≡ u.spans)
    → ((t : Store) → get t.spans (number_of id) ≡ Some r → (passes_path outer_path e t lane.0 no_filter ≡ b)
    × (passes_path inner_path e t lane.0 no_filter ≡ c)) → MadeOne lane e (s, form) ms y
    → Leaves id r (if b then kept_on lane.0 e ∷ [] else []) (if c then kept_on lane.0 e ∷ [] else []) ms y
quiet id r lane e s ms y b c has keeps pass h =
    let n = h.one in
    let same : n.form ≡ form = h.makes.honest.has in
    let spans : n.before.spans ≡ insert empty (number_of id) r = ap (λ (u : Store). u.spans) h.makes.before ∙ has in
    let passes = pass n.before (there id r n.before.spans spans) in
    record {
      has = spans_after (s, form) n y h.makes ∙ keeps n.form n.before n.after (subst (λ o. Steps n.form o n.before n.after) h.outcome h.makes.steps) ∙ spans;
      outer = ap (kept_from outer_place) h.all ∙ kept_one outer_place n outer_path lane e b h.outcome (ap (λ g. path_at g outer_place) same) passes.0;
      inner = ap (kept_from inner_place) h.all ∙ kept_one inner_place n inner_path lane e c h.outcome (ap (λ g. path_at g inner_place) same) passes.1;
    }

-- an answer, and what is left then
pub record Answers (a b : Answer) (id : Id) (r : Span) (more most : List Recorded) (ms : List OutcomeAt) (y : Formed) : Type 0 where
  pub answered : a ≡ b
  pub leaves : Leaves id r more most ms y

module _ (id : Id) (r : Span) (told : IsTold id r) (handles : r.handles ≡ 1) (lane : Lane) (memory : KeptCallsites) (s : RegistryState)
    (has : HasOnly id r s) where
  is_open : IsOpen s.store.spans (number_of id)
  is_open = (r, there id r s.store.spans has, inl (let one = handles in omega (arith, one)))

  span_entered : (a : Answer) (ms : List OutcomeAt) (after : KeptCallsites) (y : Formed) → AskedIn (Some (Enter lane id)) memory (s, form) a ms after y
      → OrRefused a (Answers a answer.Done id r (kept.Enter lane id ∷ []) [] ms y)
  span_entered answer.Done ms after y h =
      record {
        answered = refl;
        leaves = quiet id r lane (OnEnter id) s ms y true false has (λ f u v k. ap (λ (w : Store). w.spans) k.1)
            (λ t at. (told.outer t r lane at refl, told.inner t r lane at refl)) (made_one lane (OnEnter id) (s, form) ms y h.2.says h.2.goes);
      }
  span_entered (answer.Refused e) ms after y h = tt
  span_entered (answer.Made x) ms after y h = absurd h.2.says
  span_entered answer.Dropped ms after y h = absurd h.2.answers.1
  span_entered (answer.Yes b) ms after y h = absurd h.2.says
  span_entered (answer.Current o) ms after y h = absurd h.2.says

  span_left : (a : Answer) (ms : List OutcomeAt) (after : KeptCallsites) (y : Formed) → AskedIn (Some (Exit lane id)) memory (s, form) a ms after y
      → OrRefused a (Answers a answer.Done id r (kept.Exit lane id ∷ []) [] ms y)
  span_left answer.Done ms after y h =
      record {
        answered = refl;
        leaves = quiet id r lane (OnExit id) s ms y true false has (λ f u v k. ap (λ (w : Store). w.spans) k.1)
            (λ t at. (told.outer t r lane at refl, told.inner t r lane at refl)) (made_one lane (OnExit id) (s, form) ms y (h.2.says.there is_open) h.2.goes);
      }
  span_left (answer.Refused e) ms after y h = tt
  span_left (answer.Made x) ms after y h = absurd h.2.says
  span_left answer.Dropped ms after y h = absurd h.2.answers.1
  span_left (answer.Yes b) ms after y h = absurd h.2.says
  span_left (answer.Current o) ms after y h = absurd h.2.says

  event_sent : (n : Metadata) (values : Values) (past : List Answer) (a : Answer) (ms : List OutcomeAt) (after : KeptCallsites) (y : Formed)
      → level_of n ≡ WARN → ServesIn past (request.Event lane n asked.Contextual values) memory (s, form) a ms after y
      → OrRefused a (Answers a answer.Done id r (kept.Event lane (callsite_of n) ∷ []) (kept.Event lane (callsite_of n) ∷ []) ms y)
  event_sent n values past answer.Done ms after y level h =
      let e = event_of n values Contextual in
      let outer : ((passes_level filter.INFO (level_of n) && true) && true) ≡ true = ap (λ l. (passes_level filter.INFO l && true) && true) level in
      let inner : ((passes_level filter.WARN (level_of n) && true) && true) ≡ true = ap (λ l. (passes_level filter.WARN l && true) && true) level in
      record {
        answered = refl;
        leaves = quiet id r lane (OnEvent e) s ms y true true has (λ f u v k. ap (λ (w : Store). w.spans) k)
            (λ t at. (outer, inner)) (made_one lane (OnEvent e) (s, form) ms y h.2.says h.2.goes);
      }
  event_sent n values past answer.Dropped ms after y level h =
      absurd (request_kept now past (request.Event lane n asked.Contextual values) memory s answer.Dropped ms after y h
      (ap (λ l. passes_level filter.INFO l || passes_level filter.WARN l) level) refl)
  event_sent n values past (answer.Refused e) ms after y level h = tt
  event_sent n values past (answer.Made x) ms after y level h = absurd h.2.says
  event_sent n values past (answer.Yes b) ms after y level h = absurd h.2.says
  event_sent n values past (answer.Current o) ms after y level h = absurd h.2.says

-- ---- the handle is dropped

-- the span without a handle
abbrev dropped : Span → Span
dropped r = record r { handles = r.handles - 1 }

-- it alone is left, without a handle
abbrev last_of : Id → Span → Spans
last_of id r = insert (insert empty (number_of id) r) (number_of id) (dropped r)

taken : (id : Id) (r : Span) (m : Spans) → m ≡ insert empty (number_of id) r → take_handle m (number_of id) ≡ last_of id r
taken id r m h = ap (λ k. take_handle k (number_of id)) h
    ∙ ap (λ o. with_handles (λ n. n - 1) (insert empty (number_of id) r) (number_of id) o) (get_put empty (number_of id) r)

module _ (id : Id) (r : Span) (handles : r.handles ≡ 1) where
  abbrev x : ℕ
  x = number_of id

  -- whatever is in the store then is that
  only : (y : ℕ) (q : Span) → get (last_of id r) y ≡ Some q → (y ≡ x) × (q.handles ≡ 0)
  only y q at = by_test (eq_by_cmp nat_cmp y x) refl
    where
      by_test : (b : Bool) → eq_by_cmp nat_cmp y x ≡ b → (y ≡ x) × (q.handles ≡ 0)
      by_test true e =
          let same = test_same y x e in
          let it : Some q ≡ Some (dropped r) = sym at ∙ ap (get (last_of id r)) same ∙ get_put (insert empty x r) x (dropped r) in
          let one : q ≡ dropped r = cc in
          (same, ap (λ (z : Span). z.handles) one ∙ ap (λ n. n - 1) handles)
      by_test false e =
          let other : y ≡ x → ⊥ = λ same. true≢false (sym (same_test y x same) ∙ e) in
          let gone : Some q ≡ None = sym at ∙ get_beside (insert empty x r) x (dropped r) y other ∙ get_beside empty x r y other ∙ get-empty nat_cmp y in
          let no : ⊥ = cc in
          absurd no

  closes_it : AreUnheld (last_of id r) (x ∷ [])
  closes_it = record {
    exact = λ y. (
      λ k. elim k [
        | inl e ↦ subst (IsUnheld (last_of id r)) (sym e) ((dropped r, get_put (insert empty x r) x (dropped r)), λ z q within at. (only z q at).1)
        | inr never ↦ absurd never
      ],
      λ k. inl (only y k.0.0 k.0.1).0,
    );
    order = (tt, tt);
  }

-- so the drop closes that span, and no other
pub record Dropped (lane : Lane) (id : Id) (a : Answer) (ms : List OutcomeAt) : Type 0 where
  pub answered : a ≡ answer.Yes true
  pub outer : kept_from outer_place ms ≡ kept.Close lane id ∷ []
  pub inner : kept_from inner_place ms ≡ []

-- a handle was taken, and then one notice given
pub record MadeTwo (lane : Lane) (id : Id) (e : Notice) (t : Formed) (ms : List OutcomeAt) (y : Formed) : Type 0 where
  pub first : OutcomeAt
  pub between : Formed
  pub quiet : first.outcome ≡ Quiet (HandleTaken id)
  pub takes : MakesIn t first between
  pub rest : List OutcomeAt
  pub all : ms ≡ first ∷ rest
  pub one : MadeOne lane e between rest y

made_two : (lane : Lane) (id : Id) (e : Notice) (t : Formed) (ms : List OutcomeAt) (y : Formed)
    → map (λ m. m.outcome) ms ≡ Quiet (HandleTaken id) ∷ Noticed lane e ∷ [] → FoldsTo MakesIn t ms y → MadeTwo lane id e t ms y
made_two lane id e t [] y is h = let no : ⊥ = cc in absurd no
made_two lane id e t (m ∷ ms) y is h =
    record { first = m; between = h.0; quiet = cc; takes = h.1; rest = ms; all = refl; one = made_one lane e h.0 ms y (cc) h.2 }

-- of what is quiet nothing is kept
kept_quiet : (position : Position) (m : OutcomeAt) (ms : List OutcomeAt) (path : Path) (id : Id) → m.outcome ≡ Quiet (HandleTaken id)
    → path_at m.form position ≡ Some path → kept_from position (m ∷ ms) ≡ kept_from position ms
kept_quiet position m ms path id is at = λ i. map kept_notice (passed (at i) (is i) m.before m.after ++ passed_at position ms)

module _ (once : (m : Spans) (x : ℕ) (xs ys : List ℕ) → Closes m x xs → Closes m x ys → xs ≡ ys) (id : Id) (r : Span) (told : IsTold id r)
    (handles : r.handles ≡ 1) (lane : Lane) (memory : KeptCallsites) (s : RegistryState) (has : HasOnly id r s) where
  closed_by_drop : (ms : List OutcomeAt) (y : Formed) → MadeTwo lane id (OnClose id) (s, form) ms y → (kept_from outer_place ms ≡ kept.Close lane id ∷ [])
      × (kept_from inner_place ms ≡ [])
  closed_by_drop ms y h =
      let m = h.first in
      let n = h.one.one in
      let first_form : m.form ≡ form = h.takes.honest.has in
      let between : h.between.1 ≡ form = form_goes m.form m.outcome m.before m.after (s, form) h.between h.takes.layers ∙ ap (λ o. form_after o form) h.quiet in
      let same : n.form ≡ form = h.one.makes.honest.has ∙ between in
      let steps = subst (λ o. Steps m.form o m.before m.after) h.quiet h.takes.steps in
      let before : m.before.spans ≡ insert empty (number_of id) r = ap (λ (u : Store). u.spans) h.takes.before ∙ has in
      let spans : n.before.spans ≡ last_of id r = ap (λ (u : Store). u.spans) h.one.makes.before ∙ spans_after (s, form) m h.between h.takes
      ∙ ap (λ (u : Store). u.spans) steps.1 ∙ taken id r m.before.spans before in
      let at : get n.before.spans (number_of id) ≡ Some (dropped r) = ap (λ (k : Spans). get k (number_of id)) spans
      ∙ get_put (insert empty (number_of id) r) (number_of id) (dropped r) in (
        ap (kept_from outer_place) h.all ∙ kept_quiet outer_place m h.rest outer_path id h.quiet (ap (λ g. path_at g outer_place) first_form)
            ∙ ap (kept_from outer_place) h.one.all
            ∙ kept_one outer_place n outer_path lane (OnClose id) true h.one.outcome (ap (λ g. path_at g outer_place) same)
            (told.outer n.before (dropped r) lane at refl),
        ap (kept_from inner_place) h.all ∙ kept_quiet inner_place m h.rest inner_path id h.quiet (ap (λ g. path_at g inner_place) first_form)
            ∙ ap (kept_from inner_place) h.one.all
            ∙ kept_one inner_place n inner_path lane (OnClose id) false h.one.outcome (ap (λ g. path_at g inner_place) same)
            (told.inner n.before (dropped r) lane at refl),
      )

  drops : (closes : Bool) (os : List Outcome) → DropsHandle lane id s.store closes os → (closes ≡ true)
      × (os ≡ Quiet (HandleTaken id) ∷ Noticed lane (OnClose id) ∷ [])
  drops closes os h =
      let exact : h.closed ≡ number_of id ∷ [] = once s.store.spans (number_of id) h.closed (number_of id ∷ []) h.exact
      (subst (λ m. AreUnheld m (number_of id ∷ [])) (sym (taken id r s.store.spans has)) (closes_it id r handles)) in (
        h.itself.1 (subst (Member (number_of id)) (sym exact) (inl refl)),
        h.outcomes ∙ ap (λ closed. Quiet (HandleTaken id) ∷ closes_of lane closed) exact,
      )

  span_dropped : (a : Answer) (ms : List OutcomeAt) (after : KeptCallsites) (y : Formed) → AskedIn (Some (DropHandle lane id)) memory (s, form) a ms after y
      → OrRefused a (Dropped lane id a ms)
  span_dropped (answer.Yes closes) ms after y h =
      let drop = drops closes (map (λ m. m.outcome) ms) h.2.says in
      let kept = closed_by_drop ms y (made_two lane id (OnClose id) (s, form) ms y drop.1 h.2.goes) in
      record { answered = ap (λ b. answer.Yes b) drop.0; outer = kept.0; inner = kept.1 }
  span_dropped (answer.Refused e) ms after y h = tt
  span_dropped answer.Done ms after y h = absurd h.2.says
  span_dropped (answer.Made z) ms after y h = absurd h.2.says
  span_dropped answer.Dropped ms after y h = absurd h.2.answers.1
  span_dropped (answer.Current o) ms after y h = absurd h.2.says

-- ---- all five requests

refused_or : (a : Answer) (P : Type 0) (rest : List Answer) → OrRefused a P → HasRefusal (a ∷ rest) ⊎ P
refused_or (answer.Refused e) P rest h = inl tt
refused_or (answer.Made x) P rest h = inr h
refused_or answer.Dropped P rest h = inr h
refused_or answer.Done P rest h = inr h
refused_or (answer.Yes b) P rest h = inr h
refused_or (answer.Current o) P rest h = inr h

later : (a : Answer) (rest : List Answer) → HasRefusal rest → HasRefusal (a ∷ rest)
later (answer.Refused e) rest h = tt
later a rest h = h

-- what the recorders keep of it, where nothing was refused
pub record KeptOfAll (lane : Lane) (number : ℕ) (answers : List Answer) (made : List (List OutcomeAt)) : Type 0 where
  pub id : Id
  pub answered : answers ≡ answer.Made id ∷ answer.Done ∷ answer.Done ∷ answer.Done ∷ answer.Yes true ∷ []
  pub outer : kept_from outer_place (flat made) ≡ kept.New lane id ∷ kept.Enter lane id ∷ kept.Event lane number ∷ kept.Exit lane id ∷ kept.Close lane id ∷ []
  pub inner : kept_from inner_place (flat made) ≡ kept.Event lane number ∷ []

kept_five : (position : Position) (u v w p q : List OutcomeAt) (a b c d e : List Recorded) → kept_from position u ≡ a → kept_from position v ≡ b
    → kept_from position w ≡ c → kept_from position p ≡ d → kept_from position q ≡ e
    → kept_from position (u ++ (v ++ (w ++ (p ++ (q ++ []))))) ≡ a ++ (b ++ (c ++ (d ++ e)))
kept_five position u v w p q a b c d e f g h k l =
    kept_append position u (v ++ (w ++ (p ++ (q ++ []))))
    ∙ (λ i. f i ++ (kept_append position v (w ++ (p ++ (q ++ [])))
    ∙ (λ j. g j ++ (kept_append position w (p ++ (q ++ []))
    ∙ (λ m. h m ++ (kept_append position p (q ++ []) ∙ (λ n. k n ++ (ap (kept_from position) (append-nil q) ∙ l) n)) m)) j)) i)

-- the span that the first request made
names : (a : Answer) (rest : List Answer) (id : Id) → a ≡ answer.Made id → resolved (a ∷ rest) (which.Made 0) ≡ Some id
names a rest id e = ap (λ b. resolved (b ∷ rest) (which.Made 0)) e

-- a request that sets no level was served from this form on
next : (past : List Answer) (q : Request) (rs : List Request) (answers : List Answer) (made : List (List OutcomeAt)) (memory : KeptCallsites)
    (s : RegistryState) (after : KeptCallsites) (y : Formed) (G : List Answer → List (List OutcomeAt) → Type 0) → ((a : Answer) → levels_after now q a ≡ now)
    → ((a : Answer) (rest : List Answer) (ms : List OutcomeAt) (more : List (List OutcomeAt)) (k : KeptCallsites) (t : RegistryState)
    → ServesIn past q memory (s, form) a ms k (t, form) → RunIn (past ++ (a ∷ [])) rs rest more k (t, form) after y → G (a ∷ rest) (ms ∷ more))
    → RunIn past (q ∷ rs) answers made memory (s, form) after y → G answers made
next past q rs answers made memory s after y G still go h =
    next_served (λ (r : Formed). r.0) (λ r w. (w, r.1)) (λ r h. h ≡ r.1) (λ r p e lane v q w. q.1 ≡ r.1) (λ r n l q. q.1 ≡ set_at n l r.1) past q rs answers
    made memory (s, form) after y G
    (λ a rest ms more k z serves run.
    let same : z.1 ≡ form = request_form now past q memory s a ms k z serves ∙ ap form_by (still a) in
    go a rest ms more k z.0 (subst (λ g. ServesIn past q memory (s, form) a ms k (z.0, g)) same serves)
    (subst (λ g. RunIn (past ++ (a ∷ [])) rs rest more k (z.0, g) after y) same run)) h

module _ (law : ClosesAsItOpened) (once : (m : Spans) (x : ℕ) (xs ys : List ℕ) → Closes m x xs → Closes m x ys → xs ≡ ys) (lane : Lane) (m n : Metadata)
    (us vs : Values) (level : level_of m ≡ INFO) (higher : level_of n ≡ WARN) where
  abbrev new_span : Request
  new_span = request.NewSpan lane m asked.Contextual us

  abbrev enter : Request
  enter = request.Enter lane (which.Made 0)

  abbrev event : Request
  event = request.Event lane n asked.Contextual vs

  abbrev exit : Request
  exit = request.Exit lane (which.Made 0)

  abbrev drop_it : Request
  drop_it = request.Drop lane (which.Made 0)

  abbrev Goal : List Answer → List (List OutcomeAt) → Type 0
  Goal answers made = HasRefusal answers ⊎ KeptOfAll lane (callsite_of n) answers made

  pub program : (answers : List Answer) (made : List (List OutcomeAt)) (memory : KeptCallsites) (s : RegistryState) (after : KeptCallsites) (y : Formed)
      → s.store ≡ empty_store → RunIn [] (new_span ∷ enter ∷ event ∷ exit ∷ drop_it ∷ []) answers made memory (s, form) after y → Goal answers made
  program answers made memory s after y none h =
      next [] new_span (enter ∷ event ∷ exit ∷ drop_it ∷ []) answers made memory s after y Goal (λ a. refl)
      (λ a bs us1 mores k t serves run. elim
      (refused_or a (MadeSpan lane a us1 (t, form)) bs (span_made law lane m us level memory s none a us1 k (t, form) serves)) [
        | inl r ↦ inl r
        | inr one ↦ behind_span a bs us1 mores k t after y one run
      ]) h
    where
      behind_drop : (a b c d : Answer) (es : List Answer) (us1 us2 us3 us4 : List OutcomeAt) (mores : List (List OutcomeAt)) (k : KeptCallsites)
          (t1 t2 t3 t : RegistryState) (after : KeptCallsites) (y : Formed) (one : MadeSpan lane a us1 (t1, form))
          → Answers b answer.Done one.id one.span (kept.Enter lane one.id ∷ []) [] us2 (t2, form)
          → Answers c answer.Done one.id one.span (kept.Event lane (callsite_of n) ∷ []) (kept.Event lane (callsite_of n) ∷ []) us3 (t3, form)
          → Answers d answer.Done one.id one.span (kept.Exit lane one.id ∷ []) [] us4 (t, form)
          → RunIn (a ∷ b ∷ c ∷ d ∷ []) (drop_it ∷ []) es mores k (t, form) after y → Goal (a ∷ b ∷ c ∷ d ∷ es) (us1 ∷ us2 ∷ us3 ∷ us4 ∷ mores)
      behind_drop a b c d es us1 us2 us3 us4 mores k t1 t2 t3 t after y one two three four run =
          next (a ∷ b ∷ c ∷ d ∷ []) drop_it [] es mores k t after y (λ fs mss. Goal (a ∷ b ∷ c ∷ d ∷ fs) (us1 ∷ us2 ∷ us3 ∷ us4 ∷ mss)) (λ e. refl)
          (λ e fs us5 last l u serves end.
          let asks = subst (λ o. AskedIn (option_map (λ x. DropHandle lane x) o) k (t, form) e us5 l (u, form))
          (names a (b ∷ c ∷ d ∷ []) one.id one.answered) serves in
          elim (refused_or e (Dropped lane one.id e us5) fs
          (span_dropped once one.id one.span one.told one.handles lane k t four.leaves.has e us5 l (u, form) asks)) [
            | inl r ↦ inl (later a _ (later b _ (later c _ (later d _ r))))
            | inr five ↦ none_served (λ (r : Formed). r.0) (λ r w. (w, r.1)) (λ r h. h ≡ r.1) (λ r p e lane v q w. q.1 ≡ r.1)
                (λ r n l q. q.1 ≡ set_at n l r.1) (a ∷ b ∷ c ∷ d ∷ e ∷ []) fs last l (u, form) after y
                (λ gs mss. Goal (a ∷ b ∷ c ∷ d ∷ e ∷ gs) (us1 ∷ us2 ∷ us3 ∷ us4 ∷ us5 ∷ mss))
                (inr (record {
                  id = one.id;
                  answered = λ i. one.answered i ∷ two.answered i ∷ three.answered i ∷ four.answered i ∷ five.answered i ∷ [];
                  outer = kept_five outer_place us1 us2 us3 us4 us5 _ _ _ _ _ one.leaves.outer two.leaves.outer three.leaves.outer four.leaves.outer five.outer;
                  inner = kept_five inner_place us1 us2 us3 us4 us5 _ _ _ _ _ one.leaves.inner two.leaves.inner three.leaves.inner four.leaves.inner five.inner;
                })) end
          ]) run

      behind_event : (a b c : Answer) (ds : List Answer) (us1 us2 us3 : List OutcomeAt) (mores : List (List OutcomeAt)) (k : KeptCallsites)
          (t1 t2 t : RegistryState) (after : KeptCallsites) (y : Formed) (one : MadeSpan lane a us1 (t1, form))
          → Answers b answer.Done one.id one.span (kept.Enter lane one.id ∷ []) [] us2 (t2, form)
          → Answers c answer.Done one.id one.span (kept.Event lane (callsite_of n) ∷ []) (kept.Event lane (callsite_of n) ∷ []) us3 (t, form)
          → RunIn (a ∷ b ∷ c ∷ []) (exit ∷ drop_it ∷ []) ds mores k (t, form) after y → Goal (a ∷ b ∷ c ∷ ds) (us1 ∷ us2 ∷ us3 ∷ mores)
      behind_event a b c ds us1 us2 us3 mores k t1 t2 t after y one two three run =
          next (a ∷ b ∷ c ∷ []) exit (drop_it ∷ []) ds mores k t after y (λ es mss. Goal (a ∷ b ∷ c ∷ es) (us1 ∷ us2 ∷ us3 ∷ mss)) (λ d. refl)
          (λ d es us4 more l u serves rest.
          let asks = subst (λ o. AskedIn (option_map (λ x. Exit lane x) o) k (t, form) d us4 l (u, form)) (names a (b ∷ c ∷ []) one.id one.answered) serves in
          elim (refused_or d (Answers d answer.Done one.id one.span (kept.Exit lane one.id ∷ []) [] us4 (u, form)) es
          (span_left one.id one.span one.told one.handles lane k t three.leaves.has d us4 l (u, form) asks)) [
            | inl r ↦ inl (later a _ (later b _ (later c _ r)))
            | inr four ↦ behind_drop a b c d es us1 us2 us3 us4 more l t1 t2 t u after y one two three four rest
          ]) run

      behind_enter : (a b : Answer) (cs : List Answer) (us1 us2 : List OutcomeAt) (mores : List (List OutcomeAt)) (k : KeptCallsites) (t1 t : RegistryState)
          (after : KeptCallsites) (y : Formed) (one : MadeSpan lane a us1 (t1, form))
          → Answers b answer.Done one.id one.span (kept.Enter lane one.id ∷ []) [] us2 (t, form)
          → RunIn (a ∷ b ∷ []) (event ∷ exit ∷ drop_it ∷ []) cs mores k (t, form) after y → Goal (a ∷ b ∷ cs) (us1 ∷ us2 ∷ mores)
      behind_enter a b cs us1 us2 mores k t1 t after y one two run =
          next (a ∷ b ∷ []) event (exit ∷ drop_it ∷ []) cs mores k t after y (λ ds mss. Goal (a ∷ b ∷ ds) (us1 ∷ us2 ∷ mss)) (λ c. refl)
          (λ c ds us3 more l u serves rest.
          elim (refused_or c (Answers c answer.Done one.id one.span (kept.Event lane (callsite_of n) ∷ []) (kept.Event lane (callsite_of n) ∷ []) us3
          (u, form)) ds (event_sent one.id one.span one.told one.handles lane k t two.leaves.has n vs (a ∷ b ∷ []) c us3 l (u, form) higher serves)) [
            | inl r ↦ inl (later a _ (later b _ r))
            | inr three ↦ behind_event a b c ds us1 us2 us3 more l t1 t u after y one two three rest
          ]) run

      behind_span : (a : Answer) (bs : List Answer) (us1 : List OutcomeAt) (mores : List (List OutcomeAt)) (k : KeptCallsites) (t : RegistryState)
          (after : KeptCallsites) (y : Formed) → MadeSpan lane a us1 (t, form)
          → RunIn (a ∷ []) (enter ∷ event ∷ exit ∷ drop_it ∷ []) bs mores k (t, form) after y → Goal (a ∷ bs) (us1 ∷ mores)
      behind_span a bs us1 mores k t after y one run =
          next (a ∷ []) enter (event ∷ exit ∷ drop_it ∷ []) bs mores k t after y (λ cs mss. Goal (a ∷ cs) (us1 ∷ mss)) (λ b. refl)
          (λ b cs us2 more l u serves rest.
          let asks = subst (λ o. AskedIn (option_map (λ x. Enter lane x) o) k (t, form) b us2 l (u, form)) (names a [] one.id one.answered) serves in
          elim (refused_or b (Answers b answer.Done one.id one.span (kept.Enter lane one.id ∷ []) [] us2 (u, form)) cs
          (span_entered one.id one.span one.told one.handles lane k t one.leaves.has b us2 l (u, form) asks)) [
            | inl r ↦ inl (later a _ r)
            | inr two ↦ behind_enter a b cs us1 us2 more l t u after y one two rest
          ]) run
