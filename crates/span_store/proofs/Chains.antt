use Rattle.std.proofs.Common.{◌≡◌, ℕ, ◌+◌, ◌<◌, ◌≤◌, ◌⊎◌, List, [], ◌∷◌, ◌++◌, length, Option, Some, None, refl, sym, ap, subst, ◌∙◌, inl, inr, arith}
use Rattle.std.proofs.Common.{length-append, Bool, true, false, cond, ◌||◌, IsSome, zero, suc}
use Rattle.std.specs.Ordering.{nat_cmp, eq_by_cmp}
use Rattle.std.specs.Cmp.{nat_cmp_total, eq_by_cmp_equiv, Equal-is}
use Rattle.std.specs.Map.{lookup}
use Rattle.std.proofs.lemmas.Map.Steps.{length-le_from_keys}
use mathlib.Core.Bool.{true≢false}
use Rattle.std.specs.List.{AllByRecursion, IsDistinct, list_any}
use Rattle.std.specs.FinMap.{get, insert, remove, find, entries, get-entries, get-remove, get-insert, nat_cmp-IsAntisymmetric}
use Rattle.span_store.specs.Closes.{Member, IsWithin}
use Rattle.span_store.specs.Store.{Span, Spans, IsChain, IsForest, HasChild}

same_parent : (m : Spans) (x y : ℕ) (r s : Span) → x ≡ y → get m x ≡ Some r → get m y ≡ Some s → r.parent ≡ s.parent
same_parent m x y r s e p q =
    let same : Some r ≡ Some s = sym p ∙ ap (get m) e ∙ q in
    let rs : r ≡ s = cc in
    ap (λ (t : Span). t.parent) rs

-- a chain is determined by where it begins
pub chain_one : (m : Spans) (o : Option ℕ) (xs ys : List ℕ) → IsChain m o xs → IsChain m o ys → xs ≡ ys
chain_one m None [] [] p q = refl
chain_one m None [] (y ∷ ys) p q = absurd q
chain_one m None (x ∷ xs) ys p q = absurd p
chain_one m (Some k) [] ys p q = absurd p
chain_one m (Some k) (x ∷ xs) [] p q = absurd q
chain_one m (Some k) (x ∷ xs) (y ∷ ys) p q =
    let e : p.1.parent ≡ q.1.parent = same_parent m k k p.1 q.1 refl p.2 q.2 in
    let rest : xs ≡ ys = chain_one m q.1.parent xs ys (subst (λ (o : Option ℕ). IsChain m o xs) e p.3) q.3 in
    let head : x ≡ y = sym p.0 ∙ q.0 in
    cc

-- what stands in a chain is in the map, and its own chain is the rest from there
pub chain_at : (m : Spans) (x : ℕ) (o : Option ℕ) (up : List ℕ) → IsChain m o up → Member x up
    → (before : List ℕ) × (xs : List ℕ) × IsChain m (Some x) (x ∷ xs) × (up ≡ before ++ (x ∷ xs))
chain_at m x o [] c h = absurd h
chain_at m x None (y ∷ ys) c h = absurd c
chain_at m x (Some k) (y ∷ ys) c h =
    elim h [
      | inl e ↦ ([], ys, (refl, c.1, subst (λ (q : ℕ). get m q ≡ Some c.1) (c.0 ∙ sym e) c.2, c.3), ap (λ (q : ℕ). q ∷ ys) (sym e))
      | inr t ↦ let u = chain_at m x c.1.parent ys c.3 t in (y ∷ u.0, u.1, u.2, ap (λ (zs : List ℕ). y ∷ zs) u.3)
    ]

pub member_append_right : (x : ℕ) (xs ys : List ℕ) → Member x ys → Member x (xs ++ ys)
member_append_right x [] ys h = h
member_append_right x (z ∷ zs) ys h = inr (member_append_right x zs ys h)

pub in_map : (m : Spans) (x : ℕ) (o : Option ℕ) (up : List ℕ) → IsChain m o up → Member x up → (r : Span) × (get m x ≡ Some r)
in_map m x o up c h = let u = chain_at m x o up c h in (u.2.1, u.2.2)

-- no chain has a span twice
pub chain_once : (m : Spans) (x : ℕ) (xs : List ℕ) → IsChain m (Some x) (x ∷ xs) → Member x xs → ⊥
chain_once m x xs c h =
    let u = chain_at m x c.1.parent xs c.3 h in
    let same : x ∷ xs ≡ x ∷ u.1 = chain_one m (Some x) (x ∷ xs) (x ∷ u.1) c u.2 in
    let n : length xs ≡ length u.0 + length (x ∷ u.1) = ap length u.3 ∙ length-append u.0 (x ∷ u.1) in
    let k : length (x ∷ xs) ≡ length (x ∷ u.1) = ap length same in
    absurd (omega arith)

-- to be within is transitive
pub within_trans : (m : Spans) (z y x : ℕ) → IsWithin m z y → IsWithin m y x → IsWithin m z x
within_trans m z y x a b =
    let u = chain_at m y (Some z) a.0 a.1 a.2 in
    let same : b.0 ≡ y ∷ u.1 = chain_one m (Some y) b.0 (y ∷ u.1) b.1 u.2 in
    (a.0, a.1, subst (Member x) (sym u.3) (member_append_right x u.0 (y ∷ u.1) (subst (Member x) same b.2)))

pub within_itself : (m : Spans) → IsForest m → (x : ℕ) (r : Span) → get m x ≡ Some r → IsWithin m x x
within_itself m f x r e = let c = f x r e in own m x c.0 c.1
  where
    own : (m : Spans) (x : ℕ) (xs : List ℕ) → IsChain m (Some x) xs → IsWithin m x x
    own m x [] c = absurd c
    own m x (y ∷ ys) c = (y ∷ ys, c, inl c.0)

-- the chain of a child
pub chain_child : (m : Spans) (c x : ℕ) (r : Span) (xs : List ℕ) → get m c ≡ Some r → r.parent ≡ Some x → IsChain m (Some x) xs → IsChain m (Some c) (c ∷ xs)
chain_child m c x r xs e p h = (refl, r, e, subst (λ (o : Option ℕ). IsChain m o xs) (sym p) h)

pub within_child : (m : Spans) → IsForest m → (c x : ℕ) (r s : Span) → get m c ≡ Some r → r.parent ≡ Some x → get m x ≡ Some s → IsWithin m c x
within_child m f c x r s e p g =
    let u = within_itself m f x s g in
    (c ∷ u.0, chain_child m c x r u.0 e p u.1, inr u.2)

-- ---- look-ups

pub same_test : (q k : ℕ) → q ≡ k → eq_by_cmp nat_cmp q k ≡ true
same_test q k e = subst (λ (x : ℕ). eq_by_cmp nat_cmp q x ≡ true) e ((eq_by_cmp_equiv nat_cmp_total).refl q)

pub test_same : (q k : ℕ) → eq_by_cmp nat_cmp q k ≡ true → q ≡ k
test_same q k e = nat_cmp-IsAntisymmetric q k ((Equal-is (nat_cmp q k)).0 e)

pub other_test : (q k : ℕ) → (q ≡ k → ⊥) → eq_by_cmp nat_cmp q k ≡ false
other_test q k ne = by_test (eq_by_cmp nat_cmp q k) refl
  where
    by_test : (b : Bool) → eq_by_cmp nat_cmp q k ≡ b → eq_by_cmp nat_cmp q k ≡ false
    by_test true e = absurd (ne (test_same q k e))
    by_test false e = e

pub get_removed : (m : Spans) (k : ℕ) → get (remove m k) k ≡ None
get_removed m k = get-remove nat_cmp_total m k k ∙ ap (λ (b : Bool). cond b None (get m k)) (same_test k k refl)

pub get_kept : (m : Spans) (k q : ℕ) → (q ≡ k → ⊥) → get (remove m k) q ≡ get m q
get_kept m k q ne = get-remove nat_cmp_total m k q ∙ ap (λ (b : Bool). cond b None (get m q)) (other_test q k ne)

pub get_put : (m : Spans) (k : ℕ) (r : Span) → get (insert m k r) k ≡ Some r
get_put m k r = get-insert nat_cmp_total m k r k ∙ ap (λ (b : Bool). cond b (Some r) (get m k)) (same_test k k refl)

pub get_beside : (m : Spans) (k : ℕ) (r : Span) (q : ℕ) → (q ≡ k → ⊥) → get (insert m k r) q ≡ get m q
get_beside m k r q ne = get-insert nat_cmp_total m k r q ∙ ap (λ (b : Bool). cond b (Some r) (get m q)) (other_test q k ne)

-- ---- how long a chain is

not_among : (x : ℕ) (xs : List ℕ) → (Member x xs → ⊥) → AllByRecursion (λ y. eq_by_cmp nat_cmp x y ≡ false) xs
not_among x [] h = tt
not_among x (y ∷ ys) h = (other_test x y (λ e. h (inl e)), not_among x ys (λ t. h (inr t)))

pub among : (x : ℕ) (xs : List ℕ) → list_any (eq_by_cmp nat_cmp x) xs ≡ true → Member x xs
among x [] e = absurd (true≢false (sym e))
among x (y ∷ ys) e =
    elim (eq_by_cmp nat_cmp x y) as (λ b. eq_by_cmp nat_cmp x y ≡ b → (b || list_any (eq_by_cmp nat_cmp x) ys) ≡ true → Member x (y ∷ ys)) [
      | true ↦ λ t _. inl (test_same x y t)
      | false ↦ λ t h. inr (among x ys h)
    ] refl e

pub chain_distinct : (m : Spans) (o : Option ℕ) (xs : List ℕ) → IsChain m o xs → IsDistinct (eq_by_cmp nat_cmp) xs
unfolding IsDistinct
chain_distinct m o [] c = tt
chain_distinct m None (x ∷ xs) c = absurd c
chain_distinct m (Some k) (x ∷ xs) c =
    (not_among x xs (chain_once m x xs (refl, c.1, subst (λ (q : ℕ). get m q ≡ Some c.1) c.0 c.2, c.3)), chain_distinct m c.1.parent xs c.3)

found_lookup : (q : ℕ) (es : List (ℕ × Span)) → find nat_cmp q es ≡ lookup (eq_by_cmp nat_cmp q) es
found_lookup q [] = refl
found_lookup q (e ∷ es) = ap (cond (eq_by_cmp nat_cmp q e.0) (Some e.1)) (found_lookup q es)

is_some_of : (o : Option Span) (r : Span) → o ≡ Some r → IsSome o
is_some_of o r e = subst (λ (w : Option Span). IsSome w) (sym e) refl

pub chain_short : (m : Spans) (o : Option ℕ) (xs : List ℕ) → IsChain m o xs → length xs ≤ length (entries m)
chain_short m o xs c =
    length-le_from_keys (eq_by_cmp_equiv nat_cmp_total) xs (entries m) (chain_distinct m o xs c)
    (λ q h. let u = in_map m q o xs c (among q xs h) in is_some_of _ u.0 (sym (get-entries m q ∙ found_lookup q (entries m)) ∙ u.1))

-- ---- down the tree: where each span passes or has a child, one below each passes

below : (m : Spans) (P : ℕ → Span → Type 0) → IsForest m → ((x : ℕ) (r : Span) → get m x ≡ Some r → P x r ⊎ HasChild m x)
    → (n : ℕ) (x : ℕ) (r : Span) (up : List ℕ) → get m x ≡ Some r → IsChain m (Some x) up → length (entries m) < length up + n
    → (y : ℕ) × (s : Span) × (get m y ≡ Some s) × P y s × IsWithin m y x
below m P f h zero x r up e c l = absurd (let k = chain_short m (Some x) up c in omega arith)
below m P f h (suc n) x r up e c l =
    elim (h x r e) [
      | inl p ↦ (x, r, e, p, within_itself m f x r e)
      | inr k ↦
          let longer : length (entries m) < length (k.0 ∷ up) + n = omega arith in
          let u = below m P f h n k.0 k.1 (k.0 ∷ up) k.2 (chain_child m k.0 x k.1 up k.2 k.3 c) longer in
          (u.0, u.1, u.2, u.3, within_trans m u.0 k.0 x u.4 (within_child m f k.0 x k.1 r k.2 k.3 e))
    ]

pub one_below : (m : Spans) (P : ℕ → Span → Type 0) → IsForest m → ((x : ℕ) (r : Span) → get m x ≡ Some r → P x r ⊎ HasChild m x)
    → (x : ℕ) (r : Span) → get m x ≡ Some r → (y : ℕ) × (s : Span) × (get m y ≡ Some s) × P y s × IsWithin m y x
one_below m P f h x r e = let c = f x r e in below m P f h (length (entries m) + 1) x r c.0 e c.1 (omega arith)
