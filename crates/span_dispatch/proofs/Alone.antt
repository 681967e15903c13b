-- What a leaf sees of what was made is what it would see if it stood alone.
use Rattle.std.proofs.Common.{◌≡◌, ℕ, Bool, true, false, ◌&&◌, ◌||◌, ◌==◌, IsTrue, List, [], ◌∷◌, ◌++◌, map, Option, Some, None, if◌then◌else◌, refl, sym, ap}
use Rattle.std.proofs.Common.{subst, ◌∙◌, inl, inr}
use Rattle.std.proofs.lemmas.Bool.{both_ways, eqb-true, false≢true, false_from_ne_true, or_cases, or_from, or_left, or_parts, or_right, true≢false}
use Rattle.std.specs.Option.{option_map}
use Rattle.std.specs.List.{FoldsTo}
use Rattle.span_core.proofs.FilterLemmas.{cut_verdict}
use Rattle.span_core.specs.Event.{event_metadata}
use Rattle.span_core.specs.Filters.{FilterSet, refuses, union}
use Rattle.span_core.specs.Span.{asked_parent, metadata_of, number_of}
use Rattle.span_core.specs.declared.filter.FilterMap.{FilterMap}
use Rattle.span_core.specs.declared.metadata.Metadata.{Metadata}
use Rattle.span_core.specs.declared.span.Lane.{Lane}
use Rattle.span_dispatch.proofs.Goes.{SameAside, left_aside, same_aside}
use Rattle.span_dispatch.proofs.Acting.{acting_numbers, after_notice_alike, alone_over, given_alike, itself_within, learnt_alike, new_stores_agree, none_within}
use Rattle.span_dispatch.proofs.Acting.{passed_both, paths_further, paths_itself, same_numbers}
use Rattle.span_dispatch.proofs.Seen.{beneath, goes_through, some_path}
use Rattle.span_dispatch.specs.Alone.{ActAlike, Alone, PathsActAlike, acting, learning, form_of_path, passed, passed_at}
use Rattle.span_dispatch.specs.Outcome.{IsVerdict, LayersGo, Reloaded, OutcomeAt, Makes, Noticed, Outcome, Quiet, Steps, given_in, with_new}
use Rattle.std.specs.FinMap.{get}
use Rattle.span_dispatch.specs.Serve.{Sees, outcome_of}
use Rattle.span_stacks.specs.Verdict.{AreDistinct, in_verdict, numbers_of}
use Rattle.span_store.specs.Step.{begun}
use Rattle.span_store.specs.Store.{RegistryState, Span, Spans, Store}
use Rattle.span_registry.proofs.Agreeing.{agree_aside, agree_refl, agree_sym, agree_trans, views_alike}
use Rattle.span_registry.proofs.Agreeing.{SpansAgree}
use Rattle.span_registry.specs.Agree.{AgreeAt, known_to}
use Rattle.span_registry.specs.Behaviour.{AnswerAlike, Behaviour, Conduct, IsPlain, Notice, OnEvent, OnIdChange, OnNewSpan}
use Rattle.span_registry.specs.Conducts.{ActOn, ActsAt, ArePlainConducts, Conducts, ConductAfter, PathsAnswerAlike, StackPathLaws, after_notice, numbers_in}
use Rattle.span_registry.specs.Conducts.{path_now, reloading}
use Rattle.span_registry.specs.Form.{Terminal, Filtered, Form, Leaf, Parts}
use Rattle.span_registry.specs.Hooks.{StackLaws, StackSteps, no_filter}
use Rattle.span_registry.specs.Reload.{ReloadLaws, ReloadSteps}
use Rattle.span_registry.specs.Path.{Path, mask_of, passes_path, path_at}
use Rattle.span_registry.specs.Position.{HearSteps, Here, Inner, Outer, Position, Under, told_in}
use Rattle.span_registry.specs.Plan.{Itself, Nobody, Plan, Through, asked_afresh, passes}
use Rattle.span_registry.specs.Question.{single}
use Rattle.span_registry.specs.View.{view_of}

-- ---- a path that answers as conducts say

-- what passes it passes them
passes_same : (a b : Behaviour) (e : Notice) (s : Store) (lane : ℕ) (set : FilterSet) → AnswerAlike a b → passes a e s lane set ≡ passes b e s lane set
passes_same a b (OnNewSpan attrs id) s lane set h = h.enabled (metadata_of attrs) s lane set
passes_same a b (OnEvent e) s lane set h = λ i. h.enabled (event_metadata e) s lane set i && h.event e s lane set i
passes_same a b other s lane set h = refl

paths_pass_same : (path other : Path) (e : Notice) (s : Store) (lane : ℕ) (under : FilterSet)
    → PathsAnswerAlike path other → passes_path path e s lane under ≡ passes_path other e s lane under
paths_pass_same [] [] e s lane under h = refl
paths_pass_same ((None, a) ∷ path) ((m, b) ∷ other) e s lane under h = ap (λ (k : Option ℕ). passes_path ((k, b) ∷ other) e s lane under) h.0
paths_pass_same ((Some n, a) ∷ path) ((m, b) ∷ other) e s lane under h =
    let set = union under (single n) in
    (λ i. passes_same a b e s lane set h.1 i && paths_pass_same path other e s lane set h.2 i)
    ∙ ap (λ (k : Option ℕ). passes_path ((k, b) ∷ other) e s lane under) h.0
paths_pass_same other rest e s lane under h = absurd h

masks_same : (path other : Path) (under : FilterSet) → PathsAnswerAlike path other → mask_of path under ≡ mask_of other under
masks_same [] [] under h = refl
masks_same ((None, a) ∷ path) ((m, b) ∷ other) under h = masks_same path other under h.2 ∙ ap (λ (k : Option ℕ). mask_of ((k, b) ∷ other) under) h.0
masks_same ((Some n, a) ∷ path) ((m, b) ∷ other) under h =
    masks_same path other (union under (single n)) h.2 ∙ ap (λ (k : Option ℕ). mask_of ((k, b) ∷ other) under) h.0
masks_same other rest under h = absurd h

verdicts_same : (path other : Path) (meta : Metadata) (s : Store) (lane : ℕ) (under : FilterSet) (k : ℕ)
    → PathsAnswerAlike path other → in_verdict (form_of_path path) meta s lane under k ≡ in_verdict (form_of_path other) meta s lane under k
verdicts_same [] [] meta s lane under k h = refl
verdicts_same ((None, a) ∷ path) ((m, b) ∷ other) meta s lane under k h =
    ap (λ (j : Option ℕ). in_verdict (form_of_path ((j, b) ∷ other)) meta s lane under k) h.0
verdicts_same ((Some n, a) ∷ path) ((m, b) ∷ other) meta s lane under k h =
    let set = union under (single n) in
    (λ i. if h.1.enabled meta s lane set i then verdicts_same path other meta s lane set k h.2 i else (k == n))
    ∙ ap (λ (j : Option ℕ). in_verdict (form_of_path ((j, b) ∷ other)) meta s lane under k) h.0
verdicts_same other rest meta s lane under k h = absurd h

numbers_same : (path other : Path) → PathsAnswerAlike path other → numbers_of (form_of_path path) ≡ numbers_of (form_of_path other)
numbers_same [] [] h = refl
numbers_same ((None, a) ∷ path) ((m, b) ∷ other) h = numbers_same path other h.2 ∙ ap (λ (k : Option ℕ). numbers_of (form_of_path ((k, b) ∷ other))) h.0
numbers_same ((Some n, a) ∷ path) ((m, b) ∷ other) h =
    (λ i k. (k == n) || numbers_same path other h.2 i k) ∙ ap (λ (k : Option ℕ). numbers_of (form_of_path ((k, b) ∷ other))) h.0
numbers_same other rest h = absurd h

lone_numbers : (cs : Conducts) → numbers_of (form_of_path (path_now cs)) ≡ numbers_in cs
lone_numbers [] = refl
lone_numbers ((None, b) ∷ cs) = lone_numbers cs
lone_numbers ((Some n, b) ∷ cs) = λ i k. (k == n) || lone_numbers cs i k

-- ---- the verdict along a path

pub no_verdict : (f : Form) (meta : Metadata) (s : Store) (lane : ℕ) (under : FilterSet) (k : ℕ)
    → numbers_of f k ≡ false → in_verdict f meta s lane under k ≡ false
no_verdict (Leaf still a) meta s lane under k h = refl
no_verdict (Filtered None a f) meta s lane under k h = refl
no_verdict (Filtered (Some n) a f) meta s lane under k h =
    let parts = or_parts (k == n) (numbers_of f k) h in
    by_test (a.enabled meta (view_of s lane (union under (single n))))
    (in_verdict f meta s lane (union under (single n)) k) (k == n) (no_verdict f meta s lane (union under (single n)) k parts.1) parts.0
  where
    by_test : (p b c : Bool) → b ≡ false → c ≡ false → (if p then b else c) ≡ false
    by_test true b c d e = d
    by_test false b c d e = e
no_verdict (Parts joint o i) meta s lane under k h =
    let parts = or_parts (numbers_of o k) (numbers_of i k) h in
    or_from (in_verdict o meta s lane under k)
    (in_verdict i meta s lane under k) (no_verdict o meta s lane under k parts.0) (no_verdict i meta s lane under k parts.1)
no_verdict (Terminal v) meta s lane under k h = refl

-- the numbers of a path are numbers of the form
pub on_path : (f : Form) (position : Position) (path : Path) (k : ℕ)
    → path_at f position ≡ Some path → IsTrue (numbers_of (form_of_path path) k) → IsTrue (numbers_of f k)
on_path (Leaf still a) Here path k h t = subst (λ (p : Path). IsTrue (numbers_of (form_of_path p) k)) (sym (some_path [] path h)) t
on_path (Leaf still a) (Under p) path k h t = absurd (cc)
on_path (Leaf still a) (Outer p) path k h t = absurd (cc)
on_path (Leaf still a) (Inner p) path k h t = absurd (cc)
on_path (Terminal v) p path k h t = absurd (cc)
on_path (Filtered None a f) Here path k h t =
    absurd (false≢true (subst (λ (p : Path). IsTrue (numbers_of (form_of_path p) k)) (sym (some_path ((None, a) ∷ []) path h)) t))
on_path (Filtered (Some n) a f) Here path k h t =
    let own : IsTrue ((k == n) || false) = subst (λ (p : Path). IsTrue (numbers_of (form_of_path p) k)) (sym (some_path ((Some n, a) ∷ []) path h)) t in
    elim (or_cases (k == n) false own) [
      | inl x ↦ or_left (k == n) (numbers_of f k) x
      | inr x ↦ absurd (false≢true x)
    ]
on_path (Filtered None a f) (Under p) path k h t =
    let below = beneath None a (path_at f p) path h in
    on_path f p below.0 k below.1 (subst (λ (r : Path). IsTrue (numbers_of (form_of_path r) k)) (sym below.2) t)
on_path (Filtered (Some n) a f) (Under p) path k h t =
    let below = beneath (Some n) a (path_at f p) path h in
    let own : IsTrue ((k == n) || numbers_of (form_of_path below.0) k) = subst (λ (r : Path). IsTrue (numbers_of (form_of_path r) k)) (sym below.2) t in
    elim (or_cases (k == n) (numbers_of (form_of_path below.0) k) own) [
      | inl x ↦ or_left (k == n) (numbers_of f k) x
      | inr x ↦ or_right (k == n) (numbers_of f k) (on_path f p below.0 k below.1 x)
    ]
on_path (Filtered n a f) (Outer p) path k h t = absurd (cc)
on_path (Filtered n a f) (Inner p) path k h t = absurd (cc)
on_path (Parts joint o i) Here path k h t = absurd (cc)
on_path (Parts joint o i) (Under p) path k h t = absurd (cc)
on_path (Parts joint o i) (Outer p) path k h t = or_left (numbers_of o k) (numbers_of i k) (on_path o p path k h t)
on_path (Parts joint o i) (Inner p) path k h t = or_right (numbers_of o k) (numbers_of i k) (on_path i p path k h t)

or_nothing : (a b : Bool) → b ≡ false → a || b ≡ a
or_nothing true b h = refl
or_nothing false b h = h

nothing_or : (a b : Bool) → a ≡ false → a || b ≡ b
nothing_or true b h = absurd (true≢false h)
nothing_or false b h = refl

same_test : (p b c d : Bool) → b ≡ c → (if p then b else d) ≡ (if p then c else d)
same_test p b c d h = ap (λ (x : Bool). if p then x else d) h

-- of the path's filters the verdict says what the path alone says
pub verdict_of_path : (f : Form) (position : Position) (path : Path) (meta : Metadata) (s : Store) (lane : ℕ) (under : FilterSet) (k : ℕ)
    → AreDistinct f → path_at f position ≡ Some path → IsTrue (numbers_of (form_of_path path) k)
    → in_verdict f meta s lane under k ≡ in_verdict (form_of_path path) meta s lane under k
verdict_of_path (Leaf still a) Here path meta s lane under k d h t =
    absurd (false≢true (subst (λ (p : Path). IsTrue (numbers_of (form_of_path p) k)) (sym (some_path [] path h)) t))
verdict_of_path (Leaf still a) (Under p) path meta s lane under k d h t = absurd (cc)
verdict_of_path (Leaf still a) (Outer p) path meta s lane under k d h t = absurd (cc)
verdict_of_path (Leaf still a) (Inner p) path meta s lane under k d h t = absurd (cc)
verdict_of_path (Terminal v) p path meta s lane under k d h t = absurd (cc)
verdict_of_path (Filtered None a f) Here path meta s lane under k d h t =
    ap (λ (p : Path). in_verdict (form_of_path p) meta s lane under k) (some_path ((None, a) ∷ []) path h)
verdict_of_path (Filtered (Some n) a f) Here path meta s lane under k d h t =
    let set = union under (single n) in
    let own : IsTrue ((k == n) || false) = subst (λ (p : Path). IsTrue (numbers_of (form_of_path p) k)) (sym (some_path ((Some n, a) ∷ []) path h)) t in
    let here : k ≡ n = eqb-true k n (sym (or_nothing (k == n) false refl) ∙ own) in
    let none : in_verdict f meta s lane set k ≡ false = no_verdict f meta s lane set k (ap (numbers_of f) here ∙ d.0) in
    same_test (a.enabled meta (view_of s lane set)) (in_verdict f meta s lane set k) false (k == n) none
    ∙ ap (λ (p : Path). in_verdict (form_of_path p) meta s lane under k) (some_path ((Some n, a) ∷ []) path h)
verdict_of_path (Filtered None a f) (Under p) path meta s lane under k d h t =
    let below = beneath None a (path_at f p) path h in
    ap (λ (r : Path). in_verdict (form_of_path r) meta s lane under k) below.2
verdict_of_path (Filtered (Some n) a f) (Under p) path meta s lane under k d h t =
    let below = beneath (Some n) a (path_at f p) path h in
    let set = union under (single n) in
    let own : IsTrue ((k == n) || numbers_of (form_of_path below.0) k) = subst (λ (r : Path). IsTrue (numbers_of (form_of_path r) k)) (sym below.2) t in
    let not_below : k ≡ n → numbers_of (form_of_path below.0) k ≡ false = λ e.
    false_from_ne_true (numbers_of (form_of_path below.0) k) (λ x. both_ways (numbers_of f k) (ap (numbers_of f) e ∙ d.0) (on_path f p below.0 k below.1 x)) in
    let inside : in_verdict f meta s lane set k ≡ in_verdict (form_of_path below.0) meta s lane set k =
    elim (or_cases (k == n) (numbers_of (form_of_path below.0) k) own) [
      | inl x ↦ no_verdict f meta s lane set k (ap (numbers_of f) (eqb-true k n x) ∙ d.0)
          ∙ sym (no_verdict (form_of_path below.0) meta s lane set k (not_below (eqb-true k n x)))
      | inr x ↦ verdict_of_path f p below.0 meta s lane set k d.1 below.1 x
    ] in
    same_test (a.enabled meta (view_of s lane set)) (in_verdict f meta s lane set k) (in_verdict (form_of_path below.0) meta s lane set k) (k == n) inside
    ∙ ap (λ (r : Path). in_verdict (form_of_path r) meta s lane under k) below.2
verdict_of_path (Filtered n a f) (Outer p) path meta s lane under k d h t = absurd (cc)
verdict_of_path (Filtered n a f) (Inner p) path meta s lane under k d h t = absurd (cc)
verdict_of_path (Parts joint o i) Here path meta s lane under k d h t = absurd (cc)
verdict_of_path (Parts joint o i) (Under p) path meta s lane under k d h t = absurd (cc)
verdict_of_path (Parts joint o i) (Outer p) path meta s lane under k d h t =
    let elsewhere = no_verdict i meta s lane under k (d.2 k (on_path o p path k h t)) in
    or_nothing (in_verdict o meta s lane under k) (in_verdict i meta s lane under k) elsewhere ∙ verdict_of_path o p path meta s lane under k d.0 h t
verdict_of_path (Parts joint o i) (Inner p) path meta s lane under k d h t =
    let own = on_path i p path k h t in
    let elsewhere = no_verdict o meta s lane under k (false_from_ne_true (numbers_of o k) (λ x. both_ways (numbers_of i k) (d.2 k x) own)) in
    nothing_or (in_verdict o meta s lane under k) (in_verdict i meta s lane under k) elsewhere ∙ verdict_of_path i p path meta s lane under k d.1 h t

-- ---- what a path learns where each filter is asked afresh

unlearnt : (cs ds : Conducts) → ArePlainConducts cs → ds ≡ cs → PathsActAlike ds cs
unlearnt cs ds p e = subst (λ (es : Conducts). PathsActAlike es cs) (sym e) (paths_itself cs p)

-- given in a registry that differs in extensions alone
learnt_so : (e : Notice) (lane : ℕ) (under : FilterSet) (v : RegistryState) (b c : Conduct)
    → IsPlain b → ConductAfter e lane under v b c → ActAlike c (after_notice e (view_of v.store lane under) b)
learnt_so e lane under v b c p l =
    let agree = agree_sym under v.store l.between.store (agree_aside under v l.between l.extensions) in
    let alike = after_notice_alike e (view_of l.between.store lane under) (view_of v.store lane under)
    b b (views_alike under under l.between.store v.store lane agree (itself_within under)) (record { plain = p.answers; same = p.history }) in
    subst (λ (d : Conduct). ActAlike d (after_notice e (view_of v.store lane under) b)) (sym l.learnt) alike

module _ (e : Notice) (s : Store) (lane : ℕ) (v : RegistryState) where
  -- at a filter itself: where the plan goes through it, it learns
  learns_here : (p q : Bool) (under : FilterSet) (plan : Plan) (n : ℕ) (b : Conduct) (ds : Conducts)
      → p ≡ q → IsPlain b → ActOn Here (if p then Through plan else Nobody) e lane under v ((Some n, b) ∷ []) ds
      → PathsActAlike ds (if q then (Some n, after_notice e (view_of v.store lane (union under (single n))) b) ∷ [] else (Some n, b) ∷ [])
  learns_here true false under plan n b ds same plain h = absurd (true≢false same)
  learns_here false true under plan n b ds same plain h = absurd (false≢true same)
  learns_here false false under plan n b ds same plain h = unlearnt ((Some n, b) ∷ []) ds (plain, tt) h
  learns_here true true under plan n b [] same plain h = absurd (cc)
  learns_here true true under plan n b ((m, c) ∷ []) same plain h = (h.0, learnt_so e lane (union under (single n)) v b c plain h.1, tt)
  learns_here true true under plan n b ((m, c) ∷ d ∷ ds) same plain h = absurd (cc)

  -- above others: it learns, and then they do
  learns_above : (p q : Bool) (under : FilterSet) (position : Position) (plan : Plan) (n : ℕ) (b : Conduct) (cs ds learnt : Conducts)
      → p ≡ q → IsPlain b → ArePlainConducts cs
      → ((es : Conducts) → ActOn position plan e lane (union under (single n)) v cs es → PathsActAlike es learnt)
      → ActOn (Under position) (if p then Through plan else Nobody) e lane under v ((Some n, b) ∷ cs) ds
      → PathsActAlike ds (if q then (Some n, after_notice e (view_of v.store lane (union under (single n))) b) ∷ learnt else (Some n, b) ∷ cs)
  learns_above true false under position plan n b cs ds learnt same plain others rest h = absurd (true≢false same)
  learns_above false true under position plan n b cs ds learnt same plain others rest h = absurd (false≢true same)
  learns_above false false under position plan n b cs ds learnt same plain others rest h = unlearnt ((Some n, b) ∷ cs) ds (plain, others) h
  learns_above true true under position plan n b cs [] learnt same plain others rest h = absurd (cc)
  learns_above true true under position plan n b cs ((m, c) ∷ ds) learnt same plain others rest h =
      (h.0, learnt_so e lane (union under (single n)) v b c plain h.1, rest ds h.2)

  abbrev LearnsAlong : Form → Position → FilterSet → Conducts → Conducts → Type 0
  LearnsAlong f position under cs ds =
      ActOn position (asked_afresh f e s lane under) e lane under v cs ds → PathsActAlike ds (learning cs e s v.store lane under)

  learns_nothing : (under : FilterSet) (cs ds : Conducts)
      → PathsAnswerAlike [] (path_now cs) → ActOn Here Itself e lane under v cs ds → PathsActAlike ds (learning cs e s v.store lane under)
  learns_nothing under [] ds alike h = unlearnt [] ds tt h
  learns_nothing under ((m, b) ∷ cs) ds alike h = absurd alike

  -- each filter learns where all round it pass, and so does it
  learns_along : (f : Form) (position : Position) (path : Path) (under : FilterSet) (cs ds : Conducts)
      → path_at f position ≡ Some path → PathsAnswerAlike path (path_now cs) → ArePlainConducts cs → LearnsAlong f position under cs ds
  learns_along (Leaf still a) Here path under cs ds at alike plain h =
      learns_nothing under cs ds (subst (λ (p : Path). PathsAnswerAlike p (path_now cs)) (sym (some_path [] path at)) alike) h
  learns_along (Leaf still a) (Under p) path under cs ds at alike plain h = absurd (cc)
  learns_along (Leaf still a) (Outer p) path under cs ds at alike plain h = absurd (cc)
  learns_along (Leaf still a) (Inner p) path under cs ds at alike plain h = absurd (cc)
  learns_along (Terminal z) p path under cs ds at alike plain h = absurd (cc)
  learns_along (Filtered n a f) (Outer p) path under cs ds at alike plain h = absurd (cc)
  learns_along (Filtered n a f) (Inner p) path under cs ds at alike plain h = absurd (cc)
  learns_along (Parts joint o i) Here path under cs ds at alike plain h = absurd (cc)
  learns_along (Parts joint o i) (Under p) path under cs ds at alike plain h = absurd (cc)
  learns_along (Parts joint o i) (Outer p) path under cs ds at alike plain h = learns_along o p path under cs ds at alike plain h
  learns_along (Parts joint o i) (Inner p) path under cs ds at alike plain h = learns_along i p path under cs ds at alike plain h
  learns_along (Filtered n a f) Here path under cs ds at alike plain h =
      by_conducts n cs (subst (λ (p : Path). PathsAnswerAlike p (path_now cs)) (sym (some_path ((n, a) ∷ []) path at)) alike) plain h
    where
      numbered : (m : Option ℕ) (b : Conduct) → AnswerAlike a (b []) → IsPlain b → LearnsAlong (Filtered m a f) Here under ((m, b) ∷ []) ds
      numbered None b same p k = unlearnt ((None, b) ∷ []) ds (p, tt) k
      numbered (Some j) b same p k =
          let set = union under (single j) in
          learns_here (passes a e s lane set)
          (passes (b []) e s lane set) under (asked_afresh f e s lane set) j b ds (passes_same a (b []) e s lane set same) p k

      by_conducts : (m : Option ℕ) (es : Conducts)
          → PathsAnswerAlike ((m, a) ∷ []) (path_now es) → ArePlainConducts es → LearnsAlong (Filtered m a f) Here under es ds
      by_conducts m [] k p = absurd k
      by_conducts m ((l, b) ∷ []) k p = subst (λ (j : Option ℕ). LearnsAlong (Filtered m a f) Here under ((j, b) ∷ []) ds) k.0 (numbered m b k.1 p.0)
      by_conducts m ((l, b) ∷ d ∷ es) k p = absurd k.2
  learns_along (Filtered n a f) (Under p) path under cs ds at alike plain h =
      let below = beneath n a (path_at f p) path at in
      by_conducts n
      cs (subst (λ (r : Path). PathsAnswerAlike r (path_now cs)) (sym below.2) alike) plain (λ set es fs k l. learns_along f p below.0 set es fs below.1 k l) h
    where
      numbered : (m : Option ℕ) (b : Conduct) (es : Conducts) → AnswerAlike a (b []) → IsPlain b → ArePlainConducts es
          → ((set : FilterSet) (fs : Conducts) → LearnsAlong f p set es fs) → LearnsAlong (Filtered m a f) (Under p) under ((m, b) ∷ es) ds
      numbered None b es same o q rest k = unlearnt ((None, b) ∷ es) ds (o, q) k
      numbered (Some j) b es same o q rest k =
          let set = union under (single j) in
          learns_above (passes a e s lane set) (passes (b []) e s lane set)
          under p (asked_afresh f e s lane set) j b es ds (learning es e s v.store lane set) (passes_same a (b []) e s lane set same) o q (rest set) k

      by_conducts : (m : Option ℕ) (es : Conducts) → PathsAnswerAlike ((m, a) ∷ (beneath n a (path_at f p) path at).0) (path_now es) → ArePlainConducts es
          → ((set : FilterSet) (gs fs : Conducts) → PathsAnswerAlike (beneath n a (path_at f p) path at).0 (path_now gs)
          → ArePlainConducts gs → LearnsAlong f p set gs fs) → LearnsAlong (Filtered m a f) (Under p) under es ds
      by_conducts m [] k o rest = absurd k
      by_conducts m ((l, b) ∷ es) k o rest =
          subst (λ (j : Option ℕ). LearnsAlong (Filtered m a f) (Under p) under ((j, b) ∷ es) ds)
          k.0 (numbered m b es k.1 o.0 o.1 (λ set fs. rest set es fs k.2 o.1))

-- ---- one notice

-- where the verdict is cut down to the path's filters, it is what they alone say
cut_refuses : (f : Form) (position : Position) (path : Path) (cs : Conducts) (meta : Metadata) (s : Store) (lane : ℕ) (v : FilterMap)
    → AreDistinct f → path_at f position ≡ Some path → PathsAnswerAlike path (path_now cs)
    → ((k : ℕ) → refuses v k ≡ in_verdict f meta s lane no_filter k)
    → (k : ℕ) → (numbers_in cs k && refuses v k) ≡ in_verdict (form_of_path (path_now cs)) meta s lane no_filter k
cut_refuses f position path cs meta s lane v d at alike said k = by_number (numbers_in cs k) refl
  where
    by_number : (b : Bool) → numbers_in cs k ≡ b → (b && refuses v k) ≡ in_verdict (form_of_path (path_now cs)) meta s lane no_filter k
    by_number true e =
        let own : IsTrue (numbers_of (form_of_path path) k) = (λ i. numbers_same path (path_now cs) alike i k) ∙ (λ i. lone_numbers cs i k) ∙ e in
        said k ∙ verdict_of_path f position path meta s lane no_filter k d at own ∙ verdicts_same path (path_now cs) meta s lane no_filter k alike
    by_number false e = sym (no_verdict (form_of_path (path_now cs)) meta s lane no_filter k ((λ i. lone_numbers cs i k) ∙ e))

-- stores that are the same, extensions aside, agree
pub agree_same : (numbers : FilterSet) (s t : Store) → SameAside s t → AgreeAt numbers s t
agree_same numbers s t a =
    record { spans = λ x. ap (λ (m : Spans). option_map (known_to numbers) (get m x)) (sym a.spans); issued = sym a.issued; stacks = sym a.stacks }

-- the verdict of a whole form, cut down to these filters, is what they alone say
abbrev pub CutSays : Form → Conducts → Type 0
CutSays f cs = (meta : Metadata) (s : Store) (lane : Lane) (v : FilterMap)
    → IsVerdict f meta s lane v → (k : ℕ) → (numbers_in cs k && refuses v k) ≡ in_verdict (form_of_path (path_now cs)) meta s lane.0 no_filter k

-- where a stack takes a step, so does a path of it alone, and the stores after these agree
pub steps_alone : (f : Form) (cs : Conducts)
    → CutSays f cs → (o : Outcome) (s t : Store) → Steps f o s t → (u : Store) × Steps (form_of_path (path_now cs)) o s u × AgreeAt (numbers_in cs) t u
steps_alone f cs cut_says (Noticed lane (OnNewSpan attrs id)) s t h =
    let numbers = numbers_in cs in
    let x = number_of id in
    let cut = cut_verdict numbers h.verdict in
    let whole : Span = begun (record { metadata = metadata_of attrs; parent = asked_parent attrs; verdict = h.verdict }) h.parent in
    let own : Span = begun (record { metadata = metadata_of attrs; parent = asked_parent attrs; verdict = cut.0 }) h.parent in
    let both : SpansAgree numbers whole own =
    record { metadata = refl; parent = refl; handles = refl; verdict = λ n m. sym (cut.1 n ∙ ap (λ (b : Bool). b && refuses h.verdict n) m) } in (
      with_new s x own,
      record {
        parent = h.parent;
        chosen = h.chosen;
        verdict = cut.0;
        refused = λ k. cut.1 k ∙ cut_says (metadata_of attrs) s lane h.verdict h.refused k;
        fresh = h.fresh;
        other = h.other;
        state = refl;
      },
      subst (λ (v : Store). AgreeAt numbers v (with_new s x own)) (sym h.state) (new_stores_agree numbers s s x whole own (agree_refl numbers s) both),
    )
steps_alone f cs cut_says (Noticed lane (OnIdChange id other)) s t h = absurd h
steps_alone f cs cut_says other s t h = (t, h, agree_refl (numbers_in cs) t)

-- ---- one outcome, and all that was made

passed_alone : (path : Path) (cs : Conducts) (o : Outcome) (s t : Store)
    → PathsAnswerAlike path (path_now cs) → passed (Some path) o s t ≡ passed (Some (path_now cs)) o s t
passed_alone path cs (Noticed lane e) s t alike =
    λ i. if paths_pass_same
    path (path_now cs) e s lane.0 no_filter alike i then told_in e (given_in e s t) lane.0 (masks_same path (path_now cs) no_filter alike i) ∷ [] else []
passed_alone path cs other s t alike = refl

module _ {S : Type 0} (registry : S → RegistryState) {with_registry : S → RegistryState → S}
    {has_form : S → Form → Type 0} {stepped : StackSteps S} {reloaded : ReloadSteps S} {registered : S → S → Type 0} {hears : HearSteps S} {acts_at : ActsAt S}
    (paths : StackPathLaws with_registry has_form stepped registered acts_at) (levels : ReloadLaws has_form reloaded hears acts_at) where
  -- what was made leaves, alone: a store that agrees, conducts as they are learnt from it, and what is told in the store that it is given in
  abbrev LeavesAlone : (position : Position) (cs : Conducts) (o : Outcome) (s t : Store) (y : S) → Type 0
  LeavesAlone position cs o s t y =
      (u : Store) × Steps (form_of_path (path_now cs)) o s u × AgreeAt (numbers_in cs) (registry y).store u
      × (ds : Conducts) × acts_at y position ds × PathsActAlike ds (acting cs o s u) × (passed (Some (path_now cs)) o s t ≡ passed (Some (path_now cs)) o s u)

  leaves_alone : (f : Form) (o : Outcome) (s t : Store) (x y : S) (position : Position) (cs : Conducts) → has_form x f → AreDistinct f
      → acts_at x position cs → Steps f o s t → SameAside t (registry y).store → LayersGo registry with_registry has_form stepped reloaded f o s t x y
      → LeavesAlone position cs o s t y
  leaves_alone f (Noticed lane e) s t x y position cs has distinct acts steps aside n =
      let numbers = numbers_in cs in
      let plain = paths.plain x position cs acts in
      let now = paths.now x position cs f acts has in
      let step = steps_alone f cs (λ meta u q v said. cut_refuses f position now.0 cs meta u q.0 v distinct now.1 now.2 said) (Noticed lane e) s t steps in
      let on = paths.goes_on x (asked_afresh f e s lane.0 no_filter) e lane.0 n.left n.notified (registry n.notified) position cs n.layers acts in
      let there = subst (λ (z : S). acts_at z position on.0) (sym n.rest) (paths.acts_with n.notified (registry y) position on.0 on.1) in
      let learnt = learns_along e s lane.0 n.left f position now.0 no_filter cs on.0 now.1 now.2 plain on.2 in
      let given = agree_trans numbers n.left.store (given_in e s t) (given_in e s step.0) (agree_sym numbers
      (given_in e s t) n.left.store (agree_same numbers (given_in e s t) n.left.store (same_aside _ _ (ap (λ (r : RegistryState). r.store) n.given))))
      (given_alike numbers e s s t step.0 (agree_refl numbers s) step.2) in
      let moved = learnt_alike numbers cs cs e s s n.left.store
      (given_in e s step.0) lane.0 no_filter (agree_refl numbers s) given (paths_itself cs plain) (itself_within numbers) (none_within numbers) in (
        step.0,
        step.1,
        agree_trans numbers (registry y).store t step.0 (agree_sym numbers t (registry y).store (agree_same numbers t (registry y).store aside)) step.2,
        on.0,
        there,
        paths_further on.0 (learning cs e s n.left.store lane.0 no_filter) (learning cs e s (given_in e s step.0) lane.0 no_filter) learnt moved,
        passed_both cs cs (Noticed lane e) s s t step.0 (paths_itself cs plain) (agree_refl numbers s) step.2,
      )
  leaves_alone f (Quiet c) s t x y position cs has distinct acts steps aside quiet =
      let numbers = numbers_in cs in
      let step = steps_alone f cs (λ meta u q v said.
      let now = paths.now x position cs f acts has in cut_refuses f position now.0 cs meta u q.0 v distinct now.1 now.2 said) (Quiet c) s t steps in (
        step.0,
        step.1,
        agree_trans numbers (registry y).store t step.0 (agree_sym numbers t (registry y).store (agree_same numbers t (registry y).store aside)) step.2,
        cs,
        subst (λ (z : S). acts_at z position cs) (sym quiet.1) (paths.acts_with x (registry y) position cs acts),
        paths_itself cs (paths.plain x position cs acts),
        refl,
      )
  leaves_alone f (Reloaded n l) s t x y position cs has distinct acts steps aside set =
      let numbers = numbers_in cs in
      let later = levels.acts x n l y position cs set.1 acts in (
        t,
        steps,
        agree_sym numbers t (registry y).store (agree_same numbers t (registry y).store aside),
        reloading n l cs,
        later,
        paths_itself (reloading n l cs) (paths.plain y position (reloading n l cs) later),
        refl,
      )

  -- on the stack's own store
  pub sees_own : (x : S) (ms : List OutcomeAt) (y : S) (position : Position) (cs : Conducts) → FoldsTo (Makes registry with_registry has_form stepped reloaded)
      x ms y → acts_at x position cs → Alone cs (registry x).store (map outcome_of ms) (passed_at position ms)
  sees_own x [] y position cs h acts = refl
  sees_own x (m ∷ ms) y position cs h acts =
      let made = h.1 in
      let s = m.before in
      let step = leaves_alone m.form m.outcome s m.after x h.0 position cs made.honest.has
      made.honest.rules.numbers.distinct acts made.steps (left_aside registry with_registry has_form stepped reloaded x m h.0 made) made.layers in
      let rest = sees_own h.0 ms y position step.3 h.2 step.4 in
      let same : numbers_in cs ≡ numbers_in step.3 = sym (same_numbers step.3 (acting cs m.outcome s step.0) step.5 ∙ acting_numbers cs m.outcome s step.0) in
      let agree = subst (λ (numbers : FilterSet). AgreeAt numbers (registry h.0).store step.0) same step.2 in
      let now = paths.now x position cs m.form acts made.honest.has in
      let first = ap (λ (o : Option Path). passed o m.outcome s m.after) now.1 ∙ passed_alone now.0 cs m.outcome s m.after now.2 ∙ step.6 in
      subst (λ (u : Store). Alone cs u (map outcome_of (m ∷ ms)) (passed_at position (m ∷ ms))) made.before (
        step.0,
        passed_at position ms,
        step.1,
        alone_over step.3 (acting cs m.outcome s step.0) (registry h.0).store step.0 (map outcome_of ms) (passed_at position ms) step.5 agree rest,
        ap (λ k. k ++ passed_at position ms) first,
      )

  -- what a leaf sees of what was made, it sees alone on any store that agrees
  pub sees_alone : (x : S) (made : List OutcomeAt) (y : S) → FoldsTo (Makes registry with_registry has_form stepped reloaded) x made y
      → (position : Position) (cs : Conducts) (s : Store)
      → acts_at x position cs → AgreeAt (numbers_in cs) (registry x).store s → Alone cs s (map outcome_of made) (passed_at position made)
  sees_alone x made y h position cs s acts agree = alone_over cs cs (registry x).store
      s (map outcome_of made) (passed_at position made) (paths_itself cs (paths.plain x position cs acts)) agree (sees_own x made y position cs h acts)

module _ {S : Type 0} (registry : S → RegistryState) {with_registry : S → RegistryState → S} {usable : S → Type 0}
    {has_form : S → Form → Type 0} {stepped : StackSteps S} {reloaded : ReloadSteps S} {hears : HearSteps S} {registered : S → S → Type 0} {acts_at : ActsAt S}
    (laws : StackLaws with_registry usable has_form stepped hears registered) (paths : StackPathLaws with_registry has_form stepped registered acts_at)
    (levels : ReloadLaws has_form reloaded hears acts_at) where
  -- each leaf goes through what it sees of what was made, and sees it alone
  pub sees_what_is_made : {x y : S} (made : List OutcomeAt)
      → FoldsTo (Makes registry with_registry has_form stepped reloaded) x made y → Sees registry hears acts_at x made y
  sees_what_is_made {x} {y} made folds =
      record { each = λ position. goes_through registry laws levels x made y position folds; alone = sees_alone registry paths levels x made y folds }
