-- What a pass holds after the questions, and who is notified by it.
use Rattle.std.proofs.Common.{◌≡◌, ℕ, Bool, true, false, not, ◌&&◌, ◌||◌, ◌==◌, [], ◌∷◌, Option, Some, None, refl, sym, ap, ◌∙◌, ⊎_elim}
use Rattle.std.specs.Prelude.{if◌then◌else◌}
use Rattle.std.proofs.Math.Bool.{or-false, or_assoc}
use Rattle.std.proofs.lemmas.Bool.{and_right, or_parts, or_left, or_right, both_ways, cases_Bool, eq-eqb, false_from_ne_true, false≢true}
use Rattle.span_core.specs.Event.{event_metadata}
use Rattle.span_core.specs.Filters.{FilterSet, union}
use Rattle.span_core.specs.Span.{metadata_of}
use Rattle.span_core.specs.declared.event.Event.{Event}
use Rattle.span_core.specs.declared.metadata.Metadata.{Metadata}
use Rattle.span_core.specs.declared.span.Attributes.{Attributes}
use Rattle.span_core.specs.declared.span.Id.{Id}
use Rattle.span_store.specs.Store.{Spans, Store}
use Rattle.span_stacks.proofs.Asked.{Goes, GoesOn, clear, path_goes}
use Rattle.span_stacks.specs.Verdict.{AreDistinct, EventIsFresh, IsOrderly, LeavesRefuseNothing, NewSpanIsFresh, NotifiesWhosePathPasses, OthersAreFresh}
use Rattle.span_stacks.specs.Verdict.{in_verdict, numbers_of, some_vetoes, vetoes, vetoes_event}
use Rattle.span_registry.specs.Path.{Path, passes_path, path_at}
use Rattle.span_registry.specs.Behaviour.{Behaviour, Notice, OnEvent, OnNewSpan}
use Rattle.span_registry.specs.KeptForm.{RefusesNothing}
use Rattle.span_registry.specs.Form.{Filtered, Form, InList, Leaf, Parts}
use Rattle.span_registry.specs.Hooks.{no_filter}
use Rattle.span_registry.specs.Position.{Here, Inner, Outer, Position, Under, is_notified}
use Rattle.span_registry.specs.Plan.{Both, Itself, Nobody, Plan, Through, asked_afresh, by_pass, lets_by, passes}
use Rattle.span_registry.specs.Question.{answered, asked, event_asked, single}
use Rattle.span_registry.specs.View.{view_of}

-- whether a leaf or a filter passes, in the view under these filters
abbrev pub Test : Type 0
Test = Behaviour → FilterSet → Bool

-- ---- plans

-- who is notified where filters pass by this test, which knows their numbers
abbrev pub plan_of : Form → (ℕ → Test) → FilterSet → Plan
plan_of (Leaf still a) t m = Itself
plan_of (Filtered (Some n) a f) t m = if t n a (union m (single n)) then Through (plan_of f t (union m (single n))) else Nobody
plan_of (Parts j o i) t m = Both (plan_of o t m) (plan_of i t m)
plan_of other t m = Nobody

-- who is notified of a new span or an event, as a pass says
abbrev pub pass_plan : Form → FilterSet → FilterSet → Plan
pass_plan f p m = plan_of f (λ n a set. not (p n)) m

by_pass_is : (f : Form) (e : Notice) (v : Spans) (m p : FilterSet) → by_pass f e v m p ≡ plan_of f (λ n a set. lets_by n e v set p) m
by_pass_is (Filtered (Some n) a f) e v m p = ap (λ (q : Plan). if lets_by n e v (union m (single n)) p then Through q else Nobody)
    (by_pass_is f e v (union m (single n)) p)
by_pass_is (Parts j o i) e v m p = λ k. Both (by_pass_is o e v m p k) (by_pass_is i e v m p k)
by_pass_is other e v m p = refl

afresh_is : (f : Form) (e : Notice) (s : Store) (l : ℕ) (m : FilterSet) → asked_afresh f e s l m ≡ plan_of f (λ n a set. passes a e s l set) m
afresh_is (Filtered (Some n) a f) e s l m = ap (λ (q : Plan). if passes a e s l (union m (single n)) then Through q else Nobody)
    (afresh_is f e s l (union m (single n)))
afresh_is (Parts j o i) e s l m = λ k. Both (afresh_is o e s l m k) (afresh_is i e s l m k)
afresh_is other e s l m = refl

-- where verdicts alone decide, a pass makes no difference
pub others_afresh : (f : Form) (e : Notice) (s : Store) (l : ℕ) (m p : FilterSet) → OthersAreFresh f s l m p e
others_afresh f (OnNewSpan t x) s l m p = tt
others_afresh f (OnEvent e) s l m p = tt
others_afresh f other s l m p = by_pass_is f other s.spans m p ∙ sym (afresh_is f other s l m)

-- ---- a pass after an answer

at_other : (p : FilterSet) (n k : ℕ) (b : Bool) → (k == n) ≡ false → answered p (single n) b k ≡ p k
at_other p n k b e = ap (λ c. if c then not b else p k) e

pub pick : {A : Type 0} (P : A → Type 0) (c : Bool) (x y : A) → P x → P y → P (if c then x else y)
pick P true x y h g = h
pick P false x y h g = g

passed : (r s : Bool × FilterSet) → (if r.0 then s else r).0 ≡ true → (r.0 ≡ true) × (s.0 ≡ true)
passed (true, p) s e = (refl, e)
passed (false, p) s e = absurd (false≢true e)

apart : (o i : Form) (k : ℕ) → ((j : ℕ) → numbers_of o j ≡ true → numbers_of i j ≡ false) → numbers_of i k ≡ true → numbers_of o k ≡ false
apart o i k h g = false_from_ne_true (numbers_of o k) (λ x. both_ways (numbers_of i k) (h k x) g)

-- hooks look at the pass only at the numbers of their own part
local : (f : Form) (p q m : FilterSet) → ((k : ℕ) → numbers_of f k ≡ true → p k ≡ q k) → pass_plan f p m ≡ pass_plan f q m
local (Filtered (Some n) a f) p q m h =
    let rest : pass_plan f p (union m (single n)) ≡ pass_plan f q (union m (single n)) = local f p q (union m (single n)) (λ k g. h k (or_right _ _ g)) in
    λ i. if not (h n (or_left _ _ (eq-eqb n n refl)) i) then Through (rest i) else Nobody
local (Parts j o i) p q m h = λ k. Both (local o p q m (λ k g. h k (or_left _ _ g)) k) (local i p q m (λ k g. h k (or_right _ _ g)) k)
local other p q m h = refl

-- ---- questions

-- whether all pass by a test, and which filters then refuse; one that is asked again passes over filters that refuse already
abbrev pub ask : Bool → Test → Form → FilterSet → FilterSet → Bool × FilterSet
ask again t (Leaf still a) m p = (t a m, p)
ask again t (Filtered (Some n) a f) m p = if again && p n then (true, p)
    else (if t a (union m (single n)) then ask again t f (union m (single n)) (answered p (single n) true) else (true, answered p (single n) false))
ask again t (Parts j o i) m p = if (ask again t o m p).0 then ask again t i m (ask again t o m p).1 else ask again t o m p
ask again t other m p = (true, p)

abbrev pub by_metadata : Metadata → Store → ℕ → Test
by_metadata e s l a set = a.enabled e (view_of s l set)

abbrev pub by_event : Event → Store → ℕ → Test
by_event e s l a set = a.event e (view_of s l set)

asked_is : (f : Form) (e : Metadata) (s : Store) (l : ℕ) (m p : FilterSet) → asked f e s l m p ≡ ask false (by_metadata e s l) f m p
asked_is (Filtered (Some n) a f) e s l m p = ap (λ r. if a.enabled e (view_of s l (union m (single n))) then r else (true, answered p (single n) false))
    (asked_is f e s l (union m (single n)) (answered p (single n) true))
asked_is (Parts j o i) e s l m p = λ k. if (asked_is o e s l m p k).0 then asked_is i e s l m (asked_is o e s l m p k).1 k else asked_is o e s l m p k
asked_is other e s l m p = refl

event_is : (f : Form) (e : Event) (s : Store) (l : ℕ) (m p : FilterSet) → event_asked f e s l m p ≡ ask true (by_event e s l) f m p
event_is (Filtered (Some n) a f) e s l m p = ap
    (λ r. if p n then (true, p) else (if a.event e (view_of s l (union m (single n))) then r else (true, answered p (single n) false)))
    (event_is f e s l (union m (single n)) (answered p (single n) true))
event_is (Parts j o i) e s l m p = λ k. if (event_is o e s l m p k).0 then event_is i e s l m (event_is o e s l m p k).1 k else event_is o e s l m p k
event_is other e s l m p = refl

through_inside : (p q : Plan) → Through p ≡ Through q → p ≡ q
through_inside p q e = cc

both_inside : (p q r t : Plan) → Both p q ≡ Both r t → (p ≡ r) × (q ≡ t)
both_inside p q r t e = (cc, cc)

module _ (again : Bool) (t : Test) where
  -- a question leaves the numbers of other parts alone
  frame : (f : Form) (m p : FilterSet) (k : ℕ) → numbers_of f k ≡ false → (ask again t f m p).1 k ≡ p k
  frame (Filtered (Some n) a f) m p k h =
      let parts : ((k == n) ≡ false) × (numbers_of f k ≡ false) = or_parts _ _ h in
      let P : Bool × FilterSet → Type 0 = λ r. r.1 k ≡ p k in
      pick P (again && p n) _ _ refl (pick P (t a (union m (single n))) _ _
      (frame f (union m (single n)) (answered p (single n) true) k parts.1 ∙ at_other p n k true parts.0) (at_other p n k false parts.0))
  frame (Parts j o i) m p k h =
      let parts : (numbers_of o k ≡ false) × (numbers_of i k ≡ false) = or_parts _ _ h in
      pick (λ (r : Bool × FilterSet). r.1 k ≡ p k) (ask again t o m p).0 _ _
      (frame i m (ask again t o m p).1 k parts.1 ∙ frame o m p k parts.0) (frame o m p k parts.0)
  frame other m p k h = refl

  -- a pass that is right for what was asked before becomes right for this question, too
  settles : (old : Test) (f : Form) (m p : FilterSet) → ((a : Behaviour) (set : FilterSet) → old a set ≡ false → again ≡ true)
      → AreDistinct f → pass_plan f p m ≡ plan_of f (λ n. old) m → (ask again t f m p).0 ≡ true
      → pass_plan f (ask again t f m p).1 m ≡ plan_of f (λ n a set. old a set && t a set) m
  settles old (Filtered (Some n) a f) m p fit d h ok =
      by_cases (λ x y. settles old f (union m (single n)) p fit d.1 x y) (old a (union m (single n))) (p n) (t a (union m (single n))) refl refl refl
    where
      by_cases : (pass_plan f p (union m (single n)) ≡ plan_of f (λ n. old) (union m (single n)) → (ask again t f (union m (single n)) p).0 ≡ true
          → pass_plan f (ask again t f (union m (single n)) p).1 (union m (single n)) ≡ plan_of f (λ n a set. old a set && t a set) (union m (single n)))
          → (x y z : Bool) → old a (union m (single n)) ≡ x → p n ≡ y → t a (union m (single n)) ≡ z
          → pass_plan (Filtered (Some n) a f) (ask again t (Filtered (Some n) a f) m p).1 m
          ≡ plan_of (Filtered (Some n) a f) (λ n a set. old a set && t a set) m
      by_cases inner true true z eo ep et = let wrong : Nobody ≡ Through (plan_of f (λ n. old) (union m (single n))) = rw (ep, eo) at h in absurd (cc)
      by_cases inner false false z eo ep et = let wrong : Through (pass_plan f p (union m (single n))) ≡ Nobody = rw (ep, eo) at h in absurd (cc)
      by_cases inner false true z eo ep et = let more : again ≡ true = fit a (union m (single n)) eo in rw (more, eo, ep, ep) refl
      by_cases inner true false false eo ep et =
          let first : (again && p n) ≡ false = and_right _ _ ep in
          let held : answered p (single n) false n ≡ true = ap (λ c. if c then true else p n) (eq-eqb n n refl) in
          rw (first, eo, et, held) refl
      by_cases inner true false true eo ep et =
          let first : (again && p n) ≡ false = and_right _ _ ep in
          let free : answered p (single n) true ≡ p = clear p n ep in
          let inside : Through (pass_plan f p (union m (single n))) ≡ Through (plan_of f (λ n. old) (union m (single n))) = rw (ep, eo) at h in
          let all : (ask again t f (union m (single n)) p).0 ≡ true = rw (first, et, free) at ok in
          let out : (ask again t f (union m (single n)) p).1 n ≡ false = frame f (union m (single n)) p n d.0 ∙ ep in
          rw (first, eo, et, free, out, inner (through_inside _ _ inside) all) refl
  settles old (Parts j o i) m p fit d h ok =
      let go = passed (ask again t o m p) (ask again t i m (ask again t o m p).1) ok in
      let both = both_inside _ _ _ _ h in
      let same : pass_plan o (ask again t i m (ask again t o m p).1).1 m ≡ pass_plan o (ask again t o m p).1 m =
      local o _ _ m (λ k g. frame i m (ask again t o m p).1 k (d.2 k g)) in
      let still : pass_plan i (ask again t o m p).1 m ≡ pass_plan i p m = local i _ _ m (λ k g. frame o m p k (apart o i k d.2 g)) in
      let first = settles old o m p fit d.0 both.0 go.0 in
      let second = settles old i m (ask again t o m p).1 fit d.1 (still ∙ both.1) go.1 in
      rw (go.0, same, first, second) refl
  settles old other m p fit d h ok = refl

  module _ (quiet : (a : Behaviour) (set : FilterSet) → RefusesNothing a → t a set ≡ true) where
    -- where no leaf refuses, none vetoes
    none_vetoes : (f : Form) → LeavesRefuseNothing f → some_vetoes f (λ a. t a no_filter) ≡ false
    none_vetoes (Leaf still a) q = ap not (quiet a no_filter q)
    none_vetoes (Parts j o i) q = rw (none_vetoes o q.0) (none_vetoes i q.1)
    none_vetoes other q = refl

    quiet_ask : (f : Form) (m p : FilterSet) → LeavesRefuseNothing f → (ask again t f m p).0 ≡ true
    quiet_ask (Leaf still a) m p q = quiet a m q
    quiet_ask (Filtered (Some n) a f) m p q =
        let P : Bool × FilterSet → Type 0 = λ r. r.0 ≡ true in
        pick P (again && p n) _ _ refl (pick P (t a (union m (single n))) _ _ (quiet_ask f (union m (single n)) (answered p (single n) true) q) refl)
    quiet_ask (Parts j o i) m p q = rw (quiet_ask o m p q.0) (quiet_ask i m (ask again t o m p).1 q.1)
    quiet_ask other m p q = refl

    -- the outer part's answer, and then the inner one's
    in_turn : (v w : Bool) (r s : Bool × FilterSet) → r.0 ≡ not v → s.0 ≡ not w → (if r.0 then s else r).0 ≡ not (v || w)
    in_turn true w r s e h = ap (λ c. (if c then s else r).0) e ∙ e
    in_turn false w r s e h = ap (λ c. (if c then s else r).0) e ∙ h

    unless_vetoed : (f : Form) (p : FilterSet) → IsOrderly f → (ask again t f no_filter p).0 ≡ not (some_vetoes f (λ a. t a no_filter))
    unless_vetoed (Leaf still a) p q = elim (t a no_filter) as (λ b. b ≡ not (not b)) [ true ↦ refl | false ↦ refl ]
    unless_vetoed (Filtered n a f) p q = quiet_ask (Filtered n a f) no_filter p q
    unless_vetoed (Parts InList o i) p q =
        quiet_ask (Parts InList o i) no_filter p q ∙ sym (ap not (none_vetoes (Parts InList o i) q))
    unless_vetoed (Parts j o i) p q = in_turn _ _ _ _ (unless_vetoed o p q.0) (unless_vetoed i (ask again t o no_filter p).1 q.1)
    unless_vetoed other p q = refl

pub quiet_veto : (f : Form) (e : Metadata) (s : Store) (l : ℕ) → LeavesRefuseNothing f → vetoes f e s l ≡ false
quiet_veto f e s l q = none_vetoes false (by_metadata e s l) (λ a set r. r.enabled e (view_of s l set)) f q

pub asked_unless_vetoed : (f : Form) (e : Metadata) (s : Store) (l : ℕ) (p : FilterSet) → IsOrderly f → (asked f e s l no_filter p).0 ≡ not (vetoes f e s l)
asked_unless_vetoed f e s l p q =
    ap (λ (r : Bool × FilterSet). r.0) (asked_is f e s l no_filter p) ∙ unless_vetoed false (by_metadata e s l) (λ a set r. r.enabled e (view_of s l set)) f p q

pub event_unless_vetoed : (f : Form) (e : Event) (s : Store) (l : ℕ) (p : FilterSet)
    → IsOrderly f → (event_asked f e s l no_filter p).0 ≡ not (vetoes_event f e s l)
event_unless_vetoed f e s l p q =
    ap (λ (r : Bool × FilterSet). r.0) (event_is f e s l no_filter p) ∙ unless_vetoed true (by_event e s l) (λ a set r. r.event e (view_of s l set)) f p q

-- ---- the verdict

or_held : (c a : Bool) → (if c then true else a) ≡ a || c
or_held true a = sym (or_right a true refl)
or_held false a = sym (or-false a)

-- a clean pass gains exactly the verdict
gains_verdict : (f : Form) (e : Metadata) (s : Store) (l : ℕ) (m p : FilterSet) (k : ℕ)
    → AreDistinct f → ((j : ℕ) → numbers_of f j ≡ true → p j ≡ false) → (ask false (by_metadata e s l) f m p).0 ≡ true
    → (ask false (by_metadata e s l) f m p).1 k ≡ p k || in_verdict f e s l m k
gains_verdict (Filtered (Some n) a f) e s l m p k d h ok =
    let free : answered p (single n) true ≡ p = clear p n (h n (or_left _ _ (eq-eqb n n refl))) in
    ⊎_elim
    (λ (yes : a.enabled e (view_of s l (union m (single n))) ≡ true).
    rw (yes, free) (gains_verdict f e s l (union m (single n)) p k d.1 (λ j g. h j (or_right _ _ g)) (rw (yes, free) at ok)))
    (λ (no : a.enabled e (view_of s l (union m (single n))) ≡ false). rw no (or_held (k == n) (p k)))
    (cases_Bool (a.enabled e (view_of s l (union m (single n)))))
gains_verdict (Parts j o i) e s l m p k d h ok =
    let t : Test = by_metadata e s l in
    let go = passed (ask false t o m p) (ask false t i m (ask false t o m p).1) ok in
    let first = gains_verdict o e s l m p k d.0 (λ j g. h j (or_left _ _ g)) go.0 in
    let second = gains_verdict i e s l m _ k d.1 (λ j g. frame false t o m p j (apart o i j d.2 g) ∙ h j (or_right _ _ g)) go.1 in
    rw go.0 (second ∙ rw first (or_assoc (p k) (in_verdict o e s l m k) (in_verdict i e s l m k)))
gains_verdict other e s l m p k d h ok = sym (or-false (p k))

-- ---- what the laws say

-- after the metadata was asked of all, the pass says what the filters answer afresh
answers_meta : (f : Form) (e : Metadata) (s : Store) (l : ℕ) → AreDistinct f → (ask false (by_metadata e s l) f no_filter no_filter).0 ≡ true
    → pass_plan f (ask false (by_metadata e s l) f no_filter no_filter).1 no_filter ≡ plan_of f (λ n. by_metadata e s l) no_filter
answers_meta f e s l d ok = settles false (by_metadata e s l) (λ a set. true) f no_filter no_filter (λ a set x. sym x) d refl ok

pub new_span_fresh : (f : Form) (attrs : Attributes) (id : Id) (s : Store) (lane : ℕ)
    → AreDistinct f → (asked f (metadata_of attrs) s lane no_filter no_filter).0 ≡ true
    → NewSpanIsFresh f attrs id s lane (asked f (metadata_of attrs) s lane no_filter no_filter).1
new_span_fresh f attrs id s lane d = rw (asked_is f (metadata_of attrs) s lane no_filter no_filter) (λ ok. record {
  plan = λ spans. by_pass_is f (OnNewSpan attrs id) spans no_filter _
      ∙ answers_meta f (metadata_of attrs) s lane d ok ∙ sym (afresh_is f (OnNewSpan attrs id) s lane no_filter);
  verdict = λ k. gains_verdict f (metadata_of attrs) s lane no_filter no_filter k d (λ j h. refl) ok;
})

pub event_fresh : (f : Form) (e : Event) (s : Store) (lane : ℕ) → AreDistinct f → EventIsFresh f e s lane
event_fresh f e s lane d = rw (asked_is f (event_metadata e) s lane no_filter no_filter) (λ first. rw (event_is f e s lane no_filter _) (λ second spans.
    by_pass_is f (OnEvent e) spans no_filter _
    ∙ settles true (by_event e s lane) (by_metadata (event_metadata e) s lane) f no_filter _ (λ a set x. refl) d
    (answers_meta f (event_metadata e) s lane d first) second
    ∙ sym (afresh_is f (OnEvent e) s lane no_filter)))

-- ---- a leaf is reached through the filters of its path alone

at_filter : (b d : Bool) (q : Plan) (p : Position) → is_notified (Through q) p ≡ d → is_notified (if b then Through q else Nobody) p ≡ b && d
at_filter true d q p k = k
at_filter false d q p k = refl

at_first : (n : Option ℕ) (a : Behaviour) (f : Form) (e : Notice) (s : Store) (lane : ℕ) (under : FilterSet)
    → is_notified (asked_afresh (Filtered n a f) e s lane under) Here ≡ passes_path ((n, a) ∷ []) e s lane under
at_first None a f e s lane under = refl
at_first (Some n) a f e s lane under = at_filter _ true _ Here refl

-- a leaf under a filter is reached where the filter passes the notice, and the filters under that do
under_filter : (n : Option ℕ) (a : Behaviour) (f : Form) (p : Position) (path : Path) (e : Notice) (s : Store) (lane : ℕ) (under : FilterSet)
    → ((rest : Path) (below : FilterSet) → path_at f p ≡ Some rest → is_notified (asked_afresh f e s lane below) p ≡ passes_path rest e s lane below)
    → Goes n a (path_at f p) path → is_notified (asked_afresh (Filtered n a f) e s lane under) (Under p) ≡ passes_path path e s lane under
under_filter None a f p path e s lane under inside (GoesOn rest k) = refl
under_filter (Some n) a f p path e s lane under inside (GoesOn rest k) = at_filter _ _ _ (Under p) (inside rest (union under (single n)) k)

pub reached : (f : Form) (position : Position) (path : Path) (e : Notice) (s : Store) (lane : ℕ) (under : FilterSet)
    → NotifiesWhosePathPasses f position path e s lane under
reached (Leaf still a) Here path e s lane under h = let same : [] ≡ path = cc in ap (λ (p : Path). passes_path p e s lane under) same
reached (Filtered n a f) Here path e s lane under h =
    let same : (n, a) ∷ [] ≡ path = cc in at_first n a f e s lane under ∙ ap (λ (p : Path). passes_path p e s lane under) same
reached (Filtered n a f) (Under p) path e s lane under h =
    under_filter n a f p path e s lane under (λ rest below. reached f p rest e s lane below) (path_goes n a (path_at f p) path h)
reached (Parts j o i) (Outer p) path e s lane under h = reached o p path e s lane under h
reached (Parts j o i) (Inner p) path e s lane under h = reached i p path e s lane under h
reached other p path e s lane under h = absurd (cc)
