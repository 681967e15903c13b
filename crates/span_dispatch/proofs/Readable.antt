-- Whoever is told of a span can read it, and is told of its close.
use Rattle.std.proofs.Common.{◌≡◌, ℕ, ◌<◌, Bool, true, false, ◌&&◌, ◌||◌, ◌==◌, not, IsTrue, List, [], ◌∷◌, ◌++◌, Option, Some, None, if◌then◌else◌, refl, sym}
use Rattle.std.proofs.Common.{ap, subst, ◌∙◌, inl, inr}
use Rattle.std.proofs.lemmas.Bool.{and_parts, both_ways, eq-eqb, eqb-true, false≢true, false_from_ne_true, or_cases, or_left, or_right}
use Rattle.std.specs.FinMap.{get, insert}
use Rattle.std.specs.List.{AllByRecursion, FoldsTo}
use Rattle.std.specs.Option.{option_map_or}
use Rattle.span_core.proofs.SomeBelow.{some_below-found, some_below-none}
use Rattle.span_core.specs.Filters.{FilterSet, meets, refuses, union}
use Rattle.span_core.specs.Span.{asked_parent, metadata_of, number_of}
use Rattle.span_core.specs.declared.filter.TheConstants.FilterId.{LIMIT}
use Rattle.span_core.specs.declared.span.Attributes.{Attributes}
use Rattle.span_core.specs.declared.span.Id.{Id}
use Rattle.span_core.specs.declared.span.Lane.{Lane}
use Rattle.span_dispatch.proofs.Alone.{no_verdict, on_path, verdict_of_path}
use Rattle.span_dispatch.proofs.Seen.{beneath, some_path}
use Rattle.span_dispatch.specs.Alone.{form_of_path, passed, passed_at}
use Rattle.span_dispatch.specs.Outcome.{Reloaded, OutcomeAt, Makes, Noticed, Outcome, Quiet, Steps, given_in}
use Rattle.span_dispatch.specs.Readable.{ClosesAsItOpened, ShowsItsSpan}
use Rattle.span_stacks.specs.Verdict.{AreDistinct, in_verdict, numbers_of}
use Rattle.span_store.proofs.Chains.{get_put}
use Rattle.span_store.specs.Step.{begun}
use Rattle.span_store.specs.Store.{RegistryState, Span, Spans, Store}
use Rattle.span_registry.proofs.Plain.{shown_as_passed}
use Rattle.span_registry.specs.Behaviour.{Behaviour, Notice, OnClose, OnEnter, OnEvent, OnExit, OnFollows, OnIdChange, OnNewSpan, OnRecord}
use Rattle.span_registry.specs.Form.{Terminal, Filtered, Form, Leaf, Parts}
use Rattle.span_registry.specs.Hooks.{StackSteps, no_filter}
use Rattle.span_registry.specs.Reload.{KeepsRules, ReloadSteps}
use Rattle.span_registry.specs.Path.{Path, mask_of, passes_path, path_at}
use Rattle.span_registry.specs.Position.{Heard, Here, Inner, Outer, Position, Told, Under, told_in}
use Rattle.span_registry.specs.Plan.{is_passed, passes}
use Rattle.span_registry.specs.Question.{single}
use Rattle.span_registry.specs.View.{is_shown, plain_view, view_of}

-- whoever is told these can read their spans
abbrev pub ShowTheirSpans : Heard → Type 0
ShowTheirSpans heard = AllByRecursion ShowsItsSpan heard

-- ---- the filters of a path

path_distinct : (f : Form) (position : Position) (path : Path) → AreDistinct f → path_at f position ≡ Some path → AreDistinct (form_of_path path)
path_distinct (Leaf still a) Here path d h = subst (λ (p : Path). AreDistinct (form_of_path p)) (some_path [] path h) tt
path_distinct (Filtered None a f) Here path d h = subst (λ (p : Path). AreDistinct (form_of_path p)) (some_path ((None, a) ∷ []) path h) tt
path_distinct (Filtered (Some n) a f) Here path d h = subst (λ (p : Path). AreDistinct (form_of_path p)) (some_path ((Some n, a) ∷ []) path h) (refl, tt)
path_distinct (Filtered None a f) (Under p) path d h =
    let rest = beneath None a (path_at f p) path h in subst (λ (r : Path). AreDistinct (form_of_path r)) rest.2 (path_distinct f p rest.0 d rest.1)
path_distinct (Filtered (Some n) a f) (Under p) path d h =
    let rest = beneath (Some n) a (path_at f p) path h in
    let other : numbers_of (form_of_path rest.0) n ≡ false =
    false_from_ne_true (numbers_of (form_of_path rest.0) n) (λ x. both_ways (numbers_of f n) d.0 (on_path f p rest.0 n rest.1 x)) in
    subst (λ (r : Path). AreDistinct (form_of_path r)) rest.2 (other, path_distinct f p rest.0 d.1 rest.1)
path_distinct (Parts j o i) (Outer p) path d h = path_distinct o p path d.0 h
path_distinct (Parts j o i) (Inner p) path d h = path_distinct i p path d.1 h
path_distinct other p path d h = absurd (cc)

-- the mask of a path has its filters, and those that were there
in_mask : (path : Path) (under : FilterSet) (k : ℕ) → IsTrue (mask_of path under k) → IsTrue (under k || numbers_of (form_of_path path) k)
in_mask [] under k t = or_left (under k) false t
in_mask ((None, a) ∷ path) under k t = in_mask path under k t
in_mask ((Some n, a) ∷ path) under k t =
    elim (or_cases (union under (single n) k) (numbers_of (form_of_path path) k) (in_mask path (union under (single n)) k t)) [
      | inl x ↦ elim (or_cases (under k) (k == n) x) [
        | inl y ↦ or_left (under k) ((k == n) || numbers_of (form_of_path path) k) y
        | inr y ↦ or_right (under k) ((k == n) || numbers_of (form_of_path path) k) (or_left (k == n) (numbers_of (form_of_path path) k) y)
      ]
      | inr x ↦ or_right (under k) ((k == n) || numbers_of (form_of_path path) k) (or_right (k == n) (numbers_of (form_of_path path) k) x)
    ]

-- whom a path passes a new span to, no filter of it refuses that
none_refuses : (path : Path) (attrs : Attributes) (id : Id) (s : Store) (lane : ℕ) (under : FilterSet) (k : ℕ)
    → passes_path path (OnNewSpan attrs id) s lane under ≡ true → in_verdict (form_of_path path) (metadata_of attrs) s lane under k ≡ false
none_refuses ((Some n, a) ∷ path) attrs id s lane under k h =
    let set = union under (single n) in
    let both = and_parts (a.enabled (metadata_of attrs) (view_of s lane set)) (passes_path path (OnNewSpan attrs id) s lane set) h in
    ap (λ (b : Bool). if b then in_verdict (form_of_path path) (metadata_of attrs) s lane set k else (k == n)) both.0
    ∙ none_refuses path attrs id s lane set k both.1
none_refuses other attrs id s lane under k h = refl

-- ---- what a mask hides

and_false : (a b : Bool) → (IsTrue a → b ≡ false) → (a && b) ≡ false
and_false true b h = h refl
and_false false b h = refl

-- a mask of filters that refuse nothing hides nothing
hides_none : (mask refused : FilterSet) → ((k : ℕ) → IsTrue (mask k) → refused k ≡ false) → meets mask refused ≡ false
hides_none mask refused h = some_below-none LIMIT (λ k. mask k && refused k) (λ k l. and_false (mask k) (refused k) (h k))

-- a view shows what its mask passes
shown_passed : (s : Store) (lane : ℕ) (mask : FilterSet) (id : Id)
    → is_passed s.spans mask id ≡ true → is_shown (plain_view s lane mask).spans (number_of id) ≡ true
shown_passed s lane mask id h = shown_as_passed s lane mask id ∙ h

passed_by_none : (o : Option Span) (r : Span) → o ≡ Some r → option_map_or (λ (q : Span). not (meets no_filter (refuses q.verdict))) o false ≡ true
passed_by_none o r e = ap (λ (p : Option Span). option_map_or (λ (q : Span). not (meets no_filter (refuses q.verdict))) p false) e
    ∙ ap not (hides_none no_filter (refuses r.verdict) (λ k t. absurd (false≢true t)))

-- along a path that passes the notice, each filter's mask passes a span that the notice asks of
passed_down : (spans : Spans) (id : Id) (path : Path) (e : Notice) (s : Store) (lane : ℕ) (under : FilterSet)
    → ((a : Behaviour) (set : FilterSet) → passes a e s lane set ≡ true → is_passed spans set id ≡ true)
    → is_passed spans under id ≡ true → passes_path path e s lane under ≡ true → is_passed spans (mask_of path under) id ≡ true
passed_down spans id [] e s lane under asks here h = here
passed_down spans id ((None, a) ∷ path) e s lane under asks here h = absurd (false≢true h)
passed_down spans id ((Some n, a) ∷ path) e s lane under asks here h =
    let set = union under (single n) in
    let both = and_parts (passes a e s lane set) (passes_path path e s lane set) h in
    passed_down spans id path e s lane set asks (asks a set both.0) both.1

-- ---- all that is told

module _ {S : Type 0} (registry : S → RegistryState)
    (with_registry : S → RegistryState → S) (has_form : S → Form → Type 0) (stepped : StackSteps S) (reloaded : ReloadSteps S) where
  abbrev MakesOne : S → OutcomeAt → S → Type 0
  MakesOne = Makes registry with_registry has_form stepped reloaded

  -- a span that is in the store, asked for by the notice itself
  told_of_one : (path : Path) (e : Notice) (s given : Store) (lane : ℕ) (id : Id) (r : Span) → given.spans ≡ s.spans
      → get s.spans (number_of id) ≡ Some r → ((a : Behaviour) (set : FilterSet) → passes a e s lane set ≡ true → is_passed s.spans set id ≡ true)
      → passes_path path e s lane no_filter ≡ true → is_shown (plain_view given lane (mask_of path no_filter)).spans (number_of id) ≡ true
  told_of_one path e s given lane id r same there asks h =
      let mask = mask_of path no_filter in
      shown_passed given lane mask id (ap (λ (m : Spans). is_passed m mask id) same
      ∙ passed_down s.spans id path e s lane no_filter asks (passed_by_none (get s.spans (number_of id)) r there) h)

  -- the notice that a leaf's path passes is of a span that its context shows
  told_of_span : (f : Form) (position : Position) (path : Path) (lane : Lane) (e : Notice) (s t : Store)
      → AreDistinct f → path_at f position ≡ Some path → Steps f (Noticed lane e) s t → passes_path path e s lane.0 no_filter ≡ true
      → ShowsItsSpan (told_in e (given_in e s t) lane.0 (mask_of path no_filter))
  told_of_span f position path lane (OnNewSpan attrs id) s t d at step h =
      let mask = mask_of path no_filter in
      let r = begun (record { metadata = metadata_of attrs; parent = asked_parent attrs; verdict = step.verdict }) step.parent in
      let spans : t.spans ≡ insert s.spans (number_of id) r = ap (λ (u : Store). u.spans) step.state in
      let none = hides_none mask (refuses step.verdict) (λ k k_in.
      let own = in_mask path no_filter k k_in in
      step.refused k ∙ verdict_of_path f position path (metadata_of attrs) s lane.0 no_filter k d at own ∙ none_refuses path attrs id s lane.0 no_filter k h) in
      let passed_now : is_passed t.spans mask id ≡ true =
      ap (λ (m : Spans). is_passed m mask id) spans
      ∙ ap (λ (o : Option Span). option_map_or (λ q. not (meets mask (refuses q.verdict))) o false) (get_put s.spans (number_of id) r) ∙ ap not none in
      shown_passed t lane.0 mask id passed_now
  told_of_span f position path lane (OnRecord id values) s t d at step h =
      told_of_one path (OnRecord id values) s t lane.0 id step.0.0 (ap (λ (u : Store). u.spans) step.1) step.0.1 (λ a set p. p) h
  told_of_span f position path lane (OnFollows id other) s t d at step h =
      told_of_one path (OnFollows id other) s
      t lane.0 id step.0.0 (ap (λ (u : Store). u.spans) step.1) step.0.1 (λ a set p. (and_parts (is_passed s.spans set id) (is_passed s.spans set other) p).0) h
  told_of_span f position path lane (OnEvent e) s t d at step h = tt
  told_of_span f position path lane (OnEnter id) s t d at step h =
      told_of_one path (OnEnter id) s t lane.0 id step.0.0 (ap (λ (u : Store). u.spans) step.1) step.0.1 (λ a set p. p) h
  told_of_span f position path lane (OnExit id) s t d at step h =
      told_of_one path (OnExit id) s t lane.0 id step.0.0 (ap (λ (u : Store). u.spans) step.1) step.0.1 (λ a set p. p) h
  told_of_span f position path lane (OnIdChange id other) s t d at step h = absurd step
  told_of_span f position path lane (OnClose id) s t d at step h = told_of_one path (OnClose id) s s lane.0 id step.0.0 refl step.0.1 (λ a set p. p) h

  if_told : (b : Bool) (told : Told) → (b ≡ true → ShowsItsSpan told) → ShowTheirSpans (if b then told ∷ [] else [])
  if_told true told h = (h refl, tt)
  if_told false told h = tt

  told_of_made : (x : S) (m : OutcomeAt) (y : S) (position : Position) (o : Option Path)
      → path_at m.form position ≡ o → MakesOne x m y → ShowTheirSpans (passed o m.outcome m.before m.after)
  told_of_made x m y position o at made = by_outcome m.outcome o at made.steps
    where
      by_outcome : (out : Outcome) (p : Option Path)
          → path_at m.form position ≡ p → Steps m.form out m.before m.after → ShowTheirSpans (passed p out m.before m.after)
      by_outcome (Noticed lane e) None h g = tt
      by_outcome (Noticed lane e) (Some path) h g =
          if_told (passes_path path e m.before lane.0 no_filter) (told_in e (given_in e m.before m.after) lane.0 (mask_of path no_filter))
          (λ t. told_of_span m.form position path lane e m.before m.after made.honest.rules.numbers.distinct h g t)
      by_outcome (Quiet c) None h g = tt
      by_outcome (Quiet c) (Some path) h g = tt
      by_outcome (Reloaded n l) None h g = tt
      by_outcome (Reloaded n l) (Some path) h g = tt

  both_show : (h k : Heard) → ShowTheirSpans h → ShowTheirSpans k → ShowTheirSpans (h ++ k)
  both_show [] k a b = b
  both_show (one ∷ h) k a b = (a.0, both_show h k a.1 b)

  -- so of all that was made
  pub told_can_be_read : (x : S) (ms : List OutcomeAt) (y : S) (position : Position) → FoldsTo MakesOne x ms y → ShowTheirSpans (passed_at position ms)
  told_can_be_read x [] y position h = tt
  told_can_be_read x (m ∷ ms) y position h =
      both_show (passed (path_at m.form position) m.outcome m.before m.after)
      (passed_at position ms) (told_of_made x m h.0 position (path_at m.form position) refl h.1) (told_can_be_read h.0 ms y position h.2)

-- ---- a close is told to whom the span was

hides_one : (mask refused : FilterSet) (k : ℕ) → k < LIMIT → IsTrue (mask k) → refused k ≡ true → meets mask refused ≡ true
hides_one mask refused k l t r = some_below-found LIMIT (λ n. mask n && refused n) k l (λ i. t i && r i)

-- no filter of either set refuses, so none of both does
hides_neither : (under refused : FilterSet) (n : ℕ)
    → ((k : ℕ) → IsTrue (under k) → refused k ≡ false) → refused n ≡ false → (k : ℕ) → IsTrue (union under (single n) k) → refused k ≡ false
hides_neither under refused n h own k t =
    elim (or_cases (under k) (k == n) t) [
      | inl x ↦ h k x
      | inr x ↦ ap refused (eqb-true k n x) ∙ own
    ]

same_passed : (o : Option Span) (r : Span) (mask : FilterSet)
    → o ≡ Some r → option_map_or (λ (q : Span). not (meets mask (refuses q.verdict))) o false ≡ not (meets mask (refuses r.verdict))
same_passed o r mask e = ap (λ (p : Option Span). option_map_or (λ (q : Span). not (meets mask (refuses q.verdict))) p false) e

-- paths of the same filters, as far as numbers go
abbrev HaveSameNumbers : Path → Path → Type 0
HaveSameNumbers [] [] = Unit {0}
HaveSameNumbers ((n, a) ∷ path) ((m, b) ∷ other) = (m ≡ n) × HaveSameNumbers path other
HaveSameNumbers path other = ⊥

module _ (attrs : Attributes) (id : Id) (r : Span) (s t : Store) (lane later : ℕ) (there : get t.spans (number_of id) ≡ Some r) where
  closes_along : (path other : Path) (under : FilterSet) → HaveSameNumbers path other → AreDistinct (form_of_path path)
      → ((k : ℕ) → IsTrue (numbers_of (form_of_path path) k) → k < LIMIT) → ((k : ℕ) → IsTrue (under k) → refuses r.verdict k ≡ false)
      → ((k : ℕ) → IsTrue (numbers_of (form_of_path path) k) → refuses r.verdict k ≡ in_verdict (form_of_path path) (metadata_of attrs) s lane under k)
      → passes_path other (OnClose id) t later under ≡ passes_path path (OnNewSpan attrs id) s lane under
  closes_along [] [] under same d bound none said = refl
  closes_along [] ((m, b) ∷ other) under same d bound none said = absurd same
  closes_along ((n, a) ∷ path) [] under same d bound none said = absurd same
  closes_along ((None, a) ∷ path) ((m, b) ∷ other) under same d bound none said =
      ap (λ (k : Option ℕ). passes_path ((k, b) ∷ other) (OnClose id) t later under) same.0
  closes_along ((Some n, a) ∷ path) ((m, b) ∷ other) under same d bound none said =
      ap (λ (k : Option ℕ). passes_path ((k, b) ∷ other) (OnClose id) t later under) same.0
      ∙ by_answer (a.enabled (metadata_of attrs) (view_of s lane (union under (single n)))) refl (λ now inside.
      closes_along path other (union under (single n)) same.1 d.1 (λ k h. bound k (or_right (k == n) (numbers_of (form_of_path path) k) h)) now inside)
    where
      set : FilterSet
      set = union under (single n)

      own : IsTrue (numbers_of (form_of_path ((Some n, a) ∷ path)) n)
      own = or_left (n == n) (numbers_of (form_of_path path) n) (eq-eqb n n refl)

      by_answer : (p : Bool) → a.enabled (metadata_of attrs) (view_of s lane set) ≡ p
          → (((k : ℕ) → IsTrue (set k) → refuses r.verdict k ≡ false)
          → ((k : ℕ) → IsTrue (numbers_of (form_of_path path) k) → refuses r.verdict k ≡ in_verdict (form_of_path path) (metadata_of attrs) s lane set k)
          → passes_path other (OnClose id) t later set ≡ passes_path path (OnNewSpan attrs id) s lane set)
          → (is_passed t.spans set id && passes_path other (OnClose id) t later set)
          ≡ (a.enabled (metadata_of attrs) (view_of s lane set) && passes_path path (OnNewSpan attrs id) s lane set)
      by_answer true e below =
          let inside = λ (k : ℕ). ap (λ (q : Bool). if q then in_verdict (form_of_path path) (metadata_of attrs) s lane set k else (k == n)) e in
          let free : refuses r.verdict n ≡ false = said n own ∙ inside n ∙ no_verdict (form_of_path path) (metadata_of attrs) s lane set n d.0 in
          let now = hides_neither under (refuses r.verdict) n none free in
          let passed_here : is_passed t.spans set id ≡ true =
          same_passed (get t.spans (number_of id)) r set there ∙ ap not (hides_none set (refuses r.verdict) now) in
          let rest = below now (λ k h. said k (or_right (k == n) (numbers_of (form_of_path path) k) h) ∙ inside k) in
          (λ i. passed_here i && rest i) ∙ ap (λ (q : Bool). q && passes_path path (OnNewSpan attrs id) s lane set) (sym e)
      by_answer false e below =
          let refused : refuses r.verdict n ≡ true =
          said n own ∙ ap (λ (q : Bool). if q then in_verdict (form_of_path path) (metadata_of attrs) s lane set n else (n == n)) e ∙ eq-eqb n n refl in
          let hidden = hides_one set (refuses r.verdict) n (bound n own) (or_right (under n) (n == n) (eq-eqb n n refl)) refused in
          let stopped : is_passed t.spans set id ≡ false = same_passed (get t.spans (number_of id)) r set there ∙ ap not hidden in
          ap (λ (q : Bool). q && passes_path other (OnClose id) t later set) stopped
          ∙ ap (λ (q : Bool). q && passes_path path (OnNewSpan attrs id) s lane set) (sym e)

-- what follows a form has the same numbers on each path
numbers_kept : (f g : Form) (position : Position) (path other : Path)
    → KeepsRules f g → path_at f position ≡ Some path → path_at g position ≡ Some other → HaveSameNumbers path other
numbers_kept (Leaf still a) (Leaf moved b) Here path other k h l =
    subst (λ (p : Path). HaveSameNumbers p other) (some_path [] path h) (subst (λ (q : Path). HaveSameNumbers [] q) (some_path [] other l) tt)
numbers_kept (Leaf still a) (Leaf moved b) (Under p) path other k h l = absurd (cc)
numbers_kept (Leaf still a) (Leaf moved b) (Outer p) path other k h l = absurd (cc)
numbers_kept (Leaf still a) (Leaf moved b) (Inner p) path other k h l = absurd (cc)
numbers_kept (Filtered n a f) (Filtered m b g) Here path other k h l =
    subst (λ (p : Path). HaveSameNumbers p other)
    (some_path ((n, a) ∷ []) path h) (subst (λ (q : Path). HaveSameNumbers ((n, a) ∷ []) q) (some_path ((m, b) ∷ []) other l) (k.0, tt))
numbers_kept (Filtered n a f) (Filtered m b g) (Under p) path other k h l =
    let one = beneath n a (path_at f p) path h in
    let two = beneath m b (path_at g p) other l in
    subst (λ (q : Path). HaveSameNumbers q other)
    one.2 (subst (λ (q : Path). HaveSameNumbers ((n, a) ∷ one.0) q) two.2 (k.0, numbers_kept f g p one.0 two.0 k.2 one.1 two.1))
numbers_kept (Filtered n a f) (Filtered m b g) (Outer p) path other k h l = absurd (cc)
numbers_kept (Filtered n a f) (Filtered m b g) (Inner p) path other k h l = absurd (cc)
numbers_kept (Parts j o i) (Parts c p q) (Outer r) path other k h l = numbers_kept o p r path other k.1 h l
numbers_kept (Parts j o i) (Parts c p q) (Inner r) path other k h l = numbers_kept i q r path other k.2 h l
numbers_kept (Parts j o i) (Parts c p q) Here path other k h l = absurd (cc)
numbers_kept (Parts j o i) (Parts c p q) (Under r) path other k h l = absurd (cc)
numbers_kept (Terminal v) g p path other k h l = absurd (cc)
numbers_kept f g p path other k h l = absurd k

-- a path passes a close exactly if it passed the span
pub closes_as_it_opened : ClosesAsItOpened
closes_as_it_opened f g position path other attrs id r s t lane later d bound keeps at now said there =
    closes_along attrs id r s t lane.0 later.0 there path other no_filter (numbers_kept f g position path other keeps at now)
    (path_distinct f position path d at) (λ k h. bound k (on_path f position path k at h)) (λ k h. absurd (false≢true h))
    (λ k h. said k ∙ verdict_of_path f position path (metadata_of attrs) s lane.0 no_filter k d at h)
