-- What the hint of a stack says.
use Rattle.std.proofs.Common.{◌≡◌, ◌⊎◌, inl, inr, ℕ, ◌<◌, ◌≤◌, Bool, true, false, not, ◌&&◌, ◌||◌, Option, Some, None, refl, sym, ap, subst, ⊎_elim, arith}
use Rattle.std.specs.Prelude.{if◌then◌else◌, nat_le}
use Rattle.std.proofs.lemmas.Bool.{cases_Bool, eqb-true, leb-true, leb-false, lt-leb, or_left, or_right, or_from, and_from, and_parts}
use Rattle.std.proofs.lemmas.Bool.{both_ways, not-true, false≢true}
use Rattle.span_core.specs.Filters.{FilterSet, union}
use Rattle.span_core.specs.Level.{filter_number, greater, is_above, is_off, level_number, wider_hint}
use Rattle.span_core.specs.Metadata.{level_of}
use Rattle.span_core.specs.declared.level.Level.{Level}
use Rattle.span_core.specs.declared.level.LevelFilter.{LevelFilter}
use Rattle.span_core.specs.declared.level.TheConstants.LevelFilter.{OFF}
use Rattle.span_core.specs.declared.metadata.Metadata.{Metadata}
use Rattle.span_stacks.proofs.Asked.{AreRefused, wanted_by_nobody}
use Rattle.span_stacks.proofs.Built.{is_full, is_missing, is_stack, rules_of}
use Rattle.span_stacks.proofs.Interest.{IsMissing, IsThere, base_refused, by_inner, by_outer, parts_full, stands}
use Rattle.span_stacks.proofs.Pass.{pick}
use Rattle.span_stacks.specs.Honest.{HasHonestAnswers}
use Rattle.span_stacks.specs.Verdict.{vetoes}
use Rattle.span_stacks.specs.Wanted.{AboveIsUnwanted}
use Rattle.span_store.specs.Store.{Store}
use Rattle.span_registry.specs.Form.{Absent, Terminal, Base, End, Filtered, Form, InList, InPair, Leaf, OnSubscriber, Parts, is_absent, is_base, is_end}
use Rattle.span_registry.specs.Form.{is_marked}
use Rattle.span_registry.specs.Hooks.{no_filter}
use Rattle.span_registry.specs.Question.{hint_by, hint_of, single}
use Rattle.span_registry.specs.View.{view_of}

abbrev pub Hint : Type 0
Hint = Option LevelFilter

-- the level is above the hint
abbrev pub Above : Level → Hint → Type 0
Above l h = is_above l h ≡ true

-- ---- the rules, over plain values

-- above a hint is above every lower one
above_lower : (l : Level) (h k : LevelFilter) → filter_number k ≤ filter_number h → Above l (Some h) → Above l (Some k)
above_lower l h k low a =
    let high : filter_number h < level_number l = leb-false (level_number l) (filter_number h) (not-true (nat_le (level_number l) (filter_number h)) a) in
    ap not (lt-leb (level_number l) (filter_number k) (omega (arith, low, high)))

-- the greater of two is a join: above it is above both
greater_both : (l : Level) (h k : LevelFilter) → Above l (Some (greater h k)) → Above l (Some h) × Above l (Some k)
greater_both l h k a = ⊎_elim
    (λ (x : nat_le (filter_number h) (filter_number k) ≡ true). let b : Above l (Some k) = rw x at a in (above_lower l k h (leb-true _ _ x) b, b))
    (λ (x : nat_le (filter_number h) (filter_number k) ≡ false).
    let b : Above l (Some h) = rw x at a in let less = leb-false _ _ x in (b, above_lower l h k (omega (arith, less)) b))
    (cases_Bool (nat_le (filter_number h) (filter_number k)))

-- above the wider of two is above both
wider_both : (l : Level) (h k : Hint) → Above l (wider_hint h k) → Above l h × Above l k
wider_both l (Some h) (Some k) a = greater_both l h k a
wider_both l other k a = absurd (false≢true a)

-- by which rule the level is above the hint of two parts: marks, absence and hints of the outer one and the inner one
data AboveBy (l : Level) (om : Bool) (im : Bool) (oa : Bool) (ia : Bool) (h : Hint) (k : Hint) : Type 0 where
  ByBoth : Above l h × Above l k → AboveBy l om im oa ia h k
  ByOuter : om ≡ false → oa ≡ false → Above l h → AboveBy l om im oa ia h k
  ByInner : im ≡ false → ia && is_off k ≡ false → Above l k → AboveBy l om im oa ia h k
  ByAbsent : oa ≡ true → Above l k → AboveBy l om im oa ia h k

-- where both parts have hints, the level is above both
over_both : (l : Level) (oa ia : Bool) (h k : LevelFilter)
    → Above l (if oa then Some (greater h k) else (if ia && is_off (Some k) then Some h else Some (greater h k))) → Above l (Some h) × Above l (Some k)
over_both l true ia h k a = greater_both l h k a
over_both l false ia h k a = ⊎_elim
    (λ (x : ia && is_off (Some k) ≡ true).
    let b : Above l (Some h) = rw x at a in
    let nought = eqb-true (filter_number k) 0 (and_parts ia _ x).1 in (b, above_lower l h k (omega (arith, nought)) b))
    (λ (x : ia && is_off (Some k) ≡ false). greater_both l h k (rw x at a))
    (cases_Bool (ia && is_off (Some k)))

-- where the inner part alone has a hint
inner_only : (l : Level) (om ia : Bool) (k : LevelFilter) → Above l (if ia && is_off (Some k) then None else Some k) → AboveBy l om false false ia None (Some k)
inner_only l om ia k a = ⊎_elim
    (λ (x : ia && is_off (Some k) ≡ true). absurd (false≢true (rw x at a)))
    (λ (x : ia && is_off (Some k) ≡ false). ByInner refl x (rw x at a))
    (cases_Bool (ia && is_off (Some k)))

above_by : (l : Level) (om im oa ia : Bool) (h k : Hint) → Above l (hint_by om im oa ia h k) → AboveBy l om im oa ia h k
above_by l true true oa ia h k a = ByBoth (wider_both l h k a)
above_by l false true oa ia None k a = absurd (false≢true a)
above_by l om im oa ia (Some h) (Some k) a = ByBoth (over_both l oa ia h k a)
above_by l om false true ia None (Some k) a = ByAbsent refl a
above_by l om false false ia None (Some k) a = inner_only l om ia k a
above_by l false im false true (Some h) None a = ByOuter refl refl a
above_by l false im false false (Some h) None a = ByOuter refl refl a
above_by l false im false true None None a = absurd (false≢true a)
above_by l om im oa ia h k a = absurd (false≢true a)

-- ---- layers

full_present : (f : Form) → is_end f || is_full f ≡ true → is_absent f ≡ false
full_present (Filtered n a f) w = full_present f (or_right _ _ w)
full_present (Parts j o i) w =
    let both = parts_full j _ _ _ w in or_from _ _ (full_present o (or_right _ _ both.0)) (full_present i both.1)
full_present (Terminal Absent) w = absurd (false≢true w)
full_present other w = refl

-- what a level above the hint says of a part: a leaf vetoes, or it is marked, and all are refused
abbrev pub Ruled : Form → Metadata → Store → ℕ → FilterSet → Type 0
Ruled f m s l b = (vetoes f m s l ≡ true) ⊎ ((is_end f || is_marked f ≡ true) × AreRefused f m s l b)

-- what it says of a full part
abbrev pub FullRuled : Form → Metadata → Store → ℕ → FilterSet → Type 0
FullRuled f m s l b = (vetoes f m s l ≡ true) ⊎ ((is_marked f ≡ true) × AreRefused f m s l b)

full_ruled : (f : Form) (m : Metadata) (s : Store) (l : ℕ) (b : FilterSet) → is_full f ≡ true → Ruled f m s l b → FullRuled f m s l b
full_ruled (Terminal v) m s l b w r = absurd (false≢true w)
full_ruled other m s l b w r = r

above_layer : (f : Form) (m : Metadata) (s : Store) (l : ℕ) (b : FilterSet)
    → is_end f || is_full f ≡ true → HasHonestAnswers f → Above (level_of m) (hint_of f) → Ruled f m s l b
above_layer (Leaf still a) m s l b w h e = inl (ap not (h.above m (view_of s l no_filter) e))
above_layer (Terminal End) m s l b w h e = inr (refl, tt)
above_layer (Filtered None a f) m s l b w h e = inr (refl, tt)
above_layer (Filtered (Some k) a f) m s l b w h e = inr (refl, h.0.above m (view_of s l (union b (single k))) e)
above_layer (Parts InList o i) m s l b w h e =
    let both = and_parts _ _ w in
    let above : Above (level_of m) (hint_of o) × Above (level_of m) (hint_of i) = wider_both (level_of m) (hint_of o) (hint_of i) e in
    by_outer _ _ (full_ruled o m s l b both.0 (above_layer o m s l b (or_right _ _ both.0) h.0 above.0)) (λ p.
    by_inner _ _ (above_layer i m s l b both.1 h.1 above.1) (λ q. inr (and_from _ _ p.0 q.0, (p.1, q.1))))
above_layer (Parts InPair o i) m s l b w h e =
    let both = and_parts _ _ w in
    let outer : Above (level_of m) (hint_of o) → FullRuled o m s l b = λ y. full_ruled o m s l b both.0 (above_layer o m s l b (or_right _ _ both.0) h.0 y) in
    let inner : Above (level_of m) (hint_of i) → FullRuled i m s l b = λ y. full_ruled i m s l b both.1 (above_layer i m s l b (or_right _ _ both.1) h.1 y) in
    elim (above_by (level_of m) (is_marked o) (is_marked i) (is_absent o) (is_absent i) (hint_of o) (hint_of i) e) [
      | ByBoth u ↦ by_outer _ _ (outer u.0) (λ p. by_inner _ _ (inner u.1) (λ q. inr (and_from _ _ p.0 q.0, (p.1, q.1))))
      | ByOuter x n y ↦ by_outer _ _ (outer y) (λ p. absurd (both_ways _ x p.0))
      | ByInner x n y ↦ by_inner _ _ (inner y) (λ q. absurd (both_ways _ x q.0))
      | ByAbsent x y ↦ absurd (both_ways _ (full_present o (or_right _ _ both.0)) x)
    ]
above_layer other m s l b w h e = absurd (false≢true w)

-- ---- stacks

-- why a level is above a stack's hint and no leaf vetoes: a layer is marked, or all layers are absent
abbrev pub Why : Form → Type 0
Why f = (is_marked f ≡ true) ⊎ ((is_absent f ≡ true) × (is_off (hint_of f) ≡ true))

-- an absent layer on a stack that is off
off_over : (im ia : Bool) (k : Hint) → is_off k ≡ true → is_off (hint_by false im true ia (Some OFF) k) ≡ true
off_over im ia None e = absurd (false≢true e)
off_over true ia (Some k) e = pick (λ z. is_off (Some z) ≡ true) (nat_le 0 (filter_number k)) k OFF e refl
off_over false ia (Some k) e = pick (λ z. is_off (Some z) ≡ true) (nat_le 0 (filter_number k)) k OFF e refl

-- what a level above a stack's hint says: a leaf vetoes, or all are refused
abbrev pub RuledOut : Form → Metadata → Store → ℕ → FilterSet → Type 0
RuledOut f m s l b = (vetoes f m s l ≡ true) ⊎ (Why f × AreRefused f m s l b)

-- a layer that is full, on a stack
there : (o : Form) (m : Metadata) (s : Store) (l : ℕ) (b : FilterSet)
    → is_full o ≡ true → HasHonestAnswers o → Above (level_of m) (hint_of o) → FullRuled o m s l b
there o m s l b w h y = full_ruled o m s l b w (above_layer o m s l b (or_right _ _ w) h y)

-- an absent layer on a stack that is no registry
absent_on : (i : Form) (m : Metadata) (s : Store) (l : ℕ) (b : FilterSet)
    → is_base i ≡ false → RuledOut i m s l b → RuledOut (Parts OnSubscriber (Terminal Absent) i) m s l b
absent_on i m s l b n z = by_inner false _ z (λ q. inr (
  ⊎_elim
      (λ (x : is_marked i ≡ true). inl x)
      (λ (x : (is_absent i ≡ true) × (is_off (hint_of i) ≡ true)). inr (refl, rw n (off_over (is_marked i) (is_absent i) (hint_of i) x.1)))
      q.0,
  (tt, q.1),
))

-- a layer on the registry
on_base : (o i : Form) (m : Metadata) (s : Store) (l : ℕ) (b : FilterSet)
    → is_missing o || is_full o ≡ true → HasHonestAnswers o → is_base i ≡ true → Above (level_of m) (hint_of o) → RuledOut (Parts OnSubscriber o i) m s l b
on_base o i m s l b w h x y = elim (stands o w) [
  | IsMissing e ↦ subst (λ z. RuledOut (Parts OnSubscriber z i) m s l b) (sym e) (inr (inr (refl, rw x refl), (tt, base_refused i m s l b x)))
  | IsThere e ↦ by_outer _ _ (there o m s l b e h y) (λ p. inr (inl (or_left _ _ p.0), (p.1, base_refused i m s l b x)))
]

-- a layer on a stack that is no registry
on_stack : (o i : Form) (m : Metadata) (s : Store) (l : ℕ) (b : FilterSet)
    → is_missing o || is_full o ≡ true → HasHonestAnswers o → is_base i ≡ false → (Above (level_of m) (hint_of i) → RuledOut i m s l b)
    → Above (level_of m) (hint_by (is_marked o) (is_marked i) (is_absent o) (is_absent i) (hint_of o) (hint_of i)) → RuledOut (Parts OnSubscriber o i) m s l b
on_stack o i m s l b w h n below a =
    let missing : o ≡ Terminal Absent → RuledOut i m s l b → RuledOut (Parts OnSubscriber o i) m s l b =
    λ e z. subst (λ z. RuledOut (Parts OnSubscriber z i) m s l b) (sym e) (absent_on i m s l b n z) in
    elim (above_by (level_of m) (is_marked o) (is_marked i) (is_absent o) (is_absent i) (hint_of o) (hint_of i) a) [
      | ByBoth u ↦ elim (stands o w) [
        | IsMissing e ↦ missing e (below u.1)
        | IsThere e ↦ by_outer _ _ (there o m s l b e h u.0) (λ p. by_inner _ _ (below u.1) (λ q. inr (inl (or_left _ _ p.0), (p.1, q.1))))
      ]
      | ByOuter x c y ↦ elim (stands o w) [
        | IsMissing e ↦ absurd (both_ways _ c (ap is_absent e))
        | IsThere e ↦ by_outer _ _ (there o m s l b e h y) (λ p. absurd (both_ways _ x p.0))
      ]
      | ByInner x c y ↦ by_inner _ _ (below y) (λ p. absurd (⊎_elim (λ (q : is_marked i ≡ true). both_ways _ x q)
          (λ (q : (is_absent i ≡ true) × (is_off (hint_of i) ≡ true)). both_ways _ c (and_from _ _ q.0 q.1)) p.0))
      | ByAbsent x y ↦ elim (stands o w) [
        | IsMissing e ↦ missing e (below y)
        | IsThere e ↦ absurd (both_ways _ (full_present o (or_right _ _ e)) x)
      ]
    ]

-- above the hint: a leaf vetoes, or all are refused
above_means : (f : Form) (m : Metadata) (s : Store) (l : ℕ) (b : FilterSet)
    → is_stack f ≡ true → HasHonestAnswers f → Above (level_of m) (hint_of f) → RuledOut f m s l b
above_means (Terminal Base) m s l b w h e = absurd (false≢true e)
above_means (Parts OnSubscriber o i) m s l b w h e =
    let both = and_parts _ _ w in
    ⊎_elim
    (λ (x : is_base i ≡ true). on_base o i m s l b both.0 h.0 x (rw x at e))
    (λ (x : is_base i ≡ false). on_stack o i m s l b both.0 h.0 x (λ y. above_means i m s l b both.1 h.1 y) (rw x at e))
    (cases_Bool (is_base i))
above_means other m s l b w h e = absurd (false≢true w)

pub above_is_unwanted : AboveIsUnwanted
above_is_unwanted f n m s l honest e =
    let h = rules_of f n honest in
    by_inner false _ (above_means f m s l no_filter h.stack h.answers e) (λ x. inr (wanted_by_nobody f m s l x.1))
