-- A directive put in place of one, or among others.
use Rattle.std.proofs.Common.{◌≡◌, ◌∙◌, ℕ, zero, suc, ◌<◌, ◌≤◌, List, [], ◌∷◌, Bool, true, false, cond, Option, Some, None, length, get_or, refl, sym, ap}
use Rattle.std.proofs.Common.{arith}
use Rattle.std.proofs.Math.ListN.{set}
use Rattle.std.proofs.lemmas.Bool.{and_from, and_parts, cond-false}
use Rattle.std.specs.List.{AllWithin, insert, list_all}
use Rattle.std.specs.List.Sorted.{IsNonDecreasingBy, IsPartitionPoint}
use Rattle.std.specs.Ordering.{is_gt, ordering_index}
use Rattle.std.specs.Prelude.{bytes_eq, map}
use Rattle.std.specs.declared.cmp.Ordering.TheVariants.{Less, Greater}
use Rattle.span_core.specs.declared.level.LevelFilter.{LevelFilter}
use Rattle.span_targets.proofs.ByLength.{before, distinct, first, higher, lower, shorter}
use Rattle.span_targets.proofs.Texts.{apart, same}
use Rattle.span_targets.specs.Directive.{has_target, level_by, listed, target_of}
use Rattle.span_targets.specs.private.Order.{is_longest_first, order_to, precedes}
use Rattle.span_targets.specs.declared.directive.Directive.{Directive}

-- ---- over plain values

twice : {A : Type 0} (b : Bool) (x y z : A) → cond b x z ≡ cond b x (cond b y z)
twice true x y z = refl
twice false x y z = refl

swapped : {A : Type 0} (b c : Bool) (x y z : A) → (b ≡ true → c ≡ true → ⊥) → cond b y (cond c x z) ≡ cond c x (cond b y z)
swapped true true x y z n = absurd (n refl refl)
swapped true false x y z n = refl
swapped false c x y z n = refl

neither : (b : Bool) (l : LevelFilter) (o : Option LevelFilter) → cond b (Some l) o ≡ None → (b ≡ false) × (o ≡ None)
neither true l o e = absurd (cc)
neither false l o e = (refl, e)

-- ---- the order

abbrev pub Sorted : List Directive → Type 0
Sorted ds = is_longest_first (map target_of ds) ≡ true

-- where a directive with this target is to stand
abbrev pub IsPlace : List ℕ → List Directive → ℕ → Type 0
IsPlace t ds n = IsPartitionPoint (λ d. order_to t d ≡ Less) (λ d. order_to t d ≡ Greater) ds n

pub stands : (t u : List ℕ) → precedes t u ≡ true → length u ≤ length t
stands = shorter

all_at : (p : List ℕ → Bool) (ds : List Directive) (n : ℕ) (e : Directive) → list_all p (map target_of ds) ≡ true → n < length ds
    → p (target_of (get_or ds n e)) ≡ true
all_at p [] n e h l = absurd (omega (arith, l))
all_at p (x ∷ ds) zero e h l = (and_parts _ _ h).0
all_at p (x ∷ ds) (suc n) e h l = all_at p ds n e (and_parts _ _ h).1 (omega (arith, l))

-- directives in order go from those before a target to those behind it
pub rises : (ds : List Directive) (t : List ℕ) → Sorted ds → IsNonDecreasingBy (λ d. ordering_index (order_to t d)) ds
rises [] t h i j e l b = absurd (omega (arith, b))
rises (x ∷ ds) t h zero zero e l b = omega arith
rises (x ∷ ds) t h zero (suc j) e l b =
    higher t (target_of x) (target_of (get_or ds j e)) (all_at (precedes (target_of x)) ds j e (and_parts _ _ h).0 (omega (arith, b)))
rises (x ∷ ds) t h (suc i) zero e l b = absurd (omega (arith, l))
rises (x ∷ ds) t h (suc i) (suc j) e l b = rises ds t (and_parts _ _ h).1 i j e (omega (arith, l)) (omega (arith, b))

-- ---- what is listed

only_one : (t u : List ℕ) (x : Directive) → has_target t x ≡ false → has_target u x ≡ true → bytes_eq t u ≡ true → ⊥
only_one t u x f e g = apart (target_of x) t f (same (target_of x) u e ∙ sym (same t u g))

-- in place of the directive with its target
pub listed_set : (ds : List Directive) (n : ℕ) (t : List ℕ) (d e : Directive) (u : List ℕ)
    → Sorted ds → n < length ds → target_of (get_or ds n e) ≡ t → target_of d ≡ t
    → listed (set ds n d) u ≡ cond (bytes_eq t u) (Some (level_by d)) (listed ds u)
listed_set [] n t d e u h below there is = absurd (omega (arith, below))
listed_set (x ∷ ds) zero t d e u h below here is =
    ap (λ s. cond (bytes_eq s u) (Some (level_by d)) (listed ds u)) is
    ∙ twice (bytes_eq t u) (Some (level_by d)) (Some (level_by x)) (listed ds u)
    ∙ ap (λ s. cond (bytes_eq t u) (Some (level_by d)) (cond (bytes_eq s u) (Some (level_by x)) (listed ds u))) (sym here)
listed_set (x ∷ ds) (suc n) t d e u h below there is =
    let w = and_parts _ _ h in
    let above : precedes (target_of x) t ≡ true =
    ap (precedes (target_of x)) (sym there) ∙ all_at (precedes (target_of x)) ds n e w.0 (omega (arith, below)) in
    ap (λ o. cond (has_target u x) (Some (level_by x)) o) (listed_set ds n t d e u w.1 (omega (arith, below)) there is)
    ∙ swapped (has_target u x) (bytes_eq t u) (Some (level_by d)) (Some (level_by x)) (listed ds u) (only_one t u x (distinct (target_of x) t above))

-- among others, none of which has its target
pub listed_insert : (ds : List Directive) (n : ℕ) (t : List ℕ) (d : Directive) (u : List ℕ) → listed ds t ≡ None → target_of d ≡ t
    → listed (insert ds n d) u ≡ cond (bytes_eq t u) (Some (level_by d)) (listed ds u)
listed_insert ds zero t d u none e = ap (λ s. cond (bytes_eq s u) (Some (level_by d)) (listed ds u)) e
listed_insert [] (suc n) t d u none e = ap (λ (s : List ℕ). cond (bytes_eq s u) (Some (level_by d)) None) e
listed_insert (x ∷ ds) (suc n) t d u none e =
    let there = neither (has_target t x) (level_by x) (listed ds t) none in
    ap (λ o. cond (has_target u x) (Some (level_by x)) o) (listed_insert ds n t d u there.1 e)
    ∙ swapped (has_target u x) (bytes_eq t u) (Some (level_by d)) (Some (level_by x)) (listed ds u) (only_one t u x there.0)

-- no directive has a target that has a place of its own
pub none_listed : (ds : List Directive) (n : ℕ) (t : List ℕ) → IsPlace t ds n → listed ds t ≡ None
none_listed [] n t h = refl
none_listed (x ∷ ds) zero t h =
    cond-false (has_target t x) _ _ (lower t (target_of x) (h.1 0 x (omega arith) (omega arith)))
    ∙ none_listed ds zero t (λ k e l b. absurd (omega (arith, b)), λ k e l b. h.1 (suc k) e (omega arith) (omega (arith, b)))
none_listed (x ∷ ds) (suc n) t h =
    cond-false (has_target t x) _ _ (first t (target_of x) (h.0 0 x (omega arith) (omega arith)))
    ∙ none_listed ds n t (λ k e l b. h.0 (suc k) e (omega arith) (omega (arith, b)), λ k e l b. h.1 (suc k) e (omega (arith, l)) (omega (arith, b)))

-- ---- the order, with one more

all_inserted : (p : List ℕ → Bool) (ds : List Directive) (n : ℕ) (d : Directive) → list_all p (map target_of ds) ≡ true → p (target_of d) ≡ true
    → list_all p (map target_of (insert ds n d)) ≡ true
all_inserted p ds zero d h e = and_from _ _ e h
all_inserted p [] (suc n) d h e = and_from _ _ e h
all_inserted p (x ∷ ds) (suc n) d h e =
    let w = and_parts _ _ h in
    and_from _ _ w.0 (all_inserted p ds n d w.1 e)

all_behind : (ds : List Directive) (t : List ℕ) → AllWithin (λ d. order_to t d ≡ Greater) ds 0 (length ds) → list_all (precedes t) (map target_of ds) ≡ true
all_behind [] t h = refl
all_behind (x ∷ ds) t h =
    and_from _ _ (ap is_gt (h 0 x (omega arith) (omega arith))) (all_behind ds t (λ k e l b. h (suc k) e (omega arith) (omega (arith, b))))

pub sorted_insert : (ds : List Directive) (n : ℕ) (t : List ℕ) (d : Directive) → IsPlace t ds n → target_of d ≡ t → Sorted ds → Sorted (insert ds n d)
sorted_insert [] zero t d at e h = refl
sorted_insert [] (suc n) t d at e h = refl
sorted_insert (x ∷ ds) zero t d at e h =
    and_from _ _ (ap (λ s. list_all (precedes s) (map target_of (x ∷ ds))) e ∙ all_behind (x ∷ ds) t at.1) h
sorted_insert (x ∷ ds) (suc n) t d at e h =
    let w = and_parts _ _ h in
    let front : precedes (target_of x) t ≡ true = before t (target_of x) (at.0 0 x (omega arith) (omega arith)) in
    and_from _ _
    (all_inserted (precedes (target_of x)) ds n d w.0 (ap (precedes (target_of x)) e ∙ front))
    (sorted_insert ds n t d (λ k y l b. at.0 (suc k) y (omega arith) (omega (arith, b)), λ k y l b. at.1 (suc k) y (omega (arith, l)) (omega (arith, b))) e w.1)
