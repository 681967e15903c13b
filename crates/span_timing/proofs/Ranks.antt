-- How many times lie up to a bucket's end.
use Rattle.std.proofs.Common.{arith, ◌≡◌, ◌<◌, ◌≤◌, ◌+◌, ◌-◌, ◌^◌, ℕ, Bool, true, false, List, [], ◌∷◌, ◌++◌, ap, cond, ltb, map, min, refl, if◌then◌else◌}
use Rattle.std.proofs.lemmas.Bool.{le-ltb, lt-ltb}
use Rattle.std.proofs.lemmas.Bool.Decides.{nat_tests}
use Rattle.std.proofs.lemmas.List.Sums.{sum_by-cons}
use Rattle.std.proofs.lemmas.Map.Keys.{sorted_head, sorted_tail}
use Rattle.std.specs.Borrow.{Bor}
use Rattle.std.specs.List.{AllByRecursion, count_by, sum_by}
use Rattle.std.specs.List.Sorted.{IsStrictlySortedBy}
use Rattle.std.specs.Map.{keys_of}
use Rattle.std.specs.Map.Iter.{deref_pair}
use Rattle.std.specs.Ordering.{nat_cmp}
use Rattle.std.specs.declared.cmp.Ordering.TheVariants.{Less}
use Rattle.span_timing.specs.Histogram.{greatest}
use Rattle.span_times.specs.Measure.{capped}

-- what entries count in all
abbrev pub total : List (ℕ × ℕ) → ℕ
total es = sum_by (λ e. e.1) es

-- and below a key
abbrev pub below : ℕ → List (ℕ × ℕ) → ℕ
below k es = sum_by (λ e. if ltb e.0 k then e.1 else 0) es

total_one : (e : ℕ × ℕ) (es : List (ℕ × ℕ)) → total (e ∷ es) ≡ e.1 + total es
total_one e es = sum_by-cons (λ (x : ℕ × ℕ). x.1) e es

below_one : (k : ℕ) (e : ℕ × ℕ) (es : List (ℕ × ℕ)) → below k (e ∷ es) ≡ (if ltb e.0 k then e.1 else 0) + below k es
below_one k e es = sum_by-cons (λ (x : ℕ × ℕ). if ltb x.0 k then x.1 else 0) e es

is_below : (a b : ℕ) → nat_cmp a b ≡ Less → a < b
is_below a b h = grind (arith, nat_tests)

taken_in : (a k n : ℕ) → a < k → (if ltb a k then n else 0) ≡ n
taken_in a k n h = ap (λ b. if b then n else 0) (lt-ltb a k h)

left_out : (a k n : ℕ) → k ≤ a → (if ltb a k then n else 0) ≡ 0
left_out a k n h = ap (λ b. if b then n else 0) (le-ltb a k h)

-- nothing is counted below keys that are all behind
none_below : (a k : ℕ) (es : List (ℕ × ℕ)) → k ≤ a + 1 → AllByRecursion (λ y. nat_cmp a y ≡ Less) (keys_of es) → below k es ≡ 0
none_below a k [] le all = refl
none_below a k (e ∷ es) le all =
    let later = is_below a e.0 all.0 in
    let first = left_out e.0 k e.1 (omega arith) in
    let rest = none_below a k es le all.1 in
    let sum = below_one k e es in
    omega arith

at_seam : (a : ℕ) (done : List (ℕ × ℕ)) (e : ℕ × ℕ) (rest : List (ℕ × ℕ))
    → AllByRecursion (λ y. nat_cmp a y ≡ Less) (keys_of (done ++ e ∷ rest)) → nat_cmp a e.0 ≡ Less
at_seam a [] e rest all = all.0
at_seam a (d ∷ done) e rest all = at_seam a done e rest all.1

-- below a key's end all is counted that stands before it, and below the next number what it has, too
pub split_below : (k : ℕ) (done : List (ℕ × ℕ)) (e : ℕ × ℕ) (rest : List (ℕ × ℕ)) → e.0 ≤ k → k ≤ e.0 + 1
    → IsStrictlySortedBy nat_cmp (keys_of (done ++ e ∷ rest)) → below k (done ++ e ∷ rest) ≡ total done + (if ltb e.0 k then e.1 else 0)
split_below k [] e rest from to sorted =
    let later = none_below e.0 k rest to (sorted_head nat_cmp e.0 (keys_of rest) sorted) in
    let sum = below_one k e rest in
    omega arith
split_below k (d ∷ done) e rest from to sorted =
    let before = is_below d.0 e.0 (at_seam d.0 done e rest (sorted_head nat_cmp d.0 (keys_of (done ++ e ∷ rest)) sorted)) in
    let first = taken_in d.0 k d.1 (omega arith) in
    let others = split_below k done e rest from to (sorted_tail nat_cmp d.0 (keys_of (done ++ e ∷ rest)) sorted) in
    let sum = below_one k d (done ++ e ∷ rest) in
    let all = total_one d done in
    omega arith

step : (a b : Bool) (m n : ℕ) → (a ≡ true → b ≡ true) → m ≤ n → cond a 1 0 + m ≤ cond b 1 0 + n
step true true m n h le = omega arith
step true false m n h le = absurd (no (h refl))
  where
    no : false ≡ true → ⊥
    no e = cc
step false true m n h le = omega arith
step false false m n h le = omega arith

-- a test that passes wherever another does passes as often
pub count_le : (p q : ℕ → Bool) (m : ℕ) (times : List ℕ)
    → greatest times ≤ m → ((t : ℕ) → t ≤ m → p t ≡ true → q t ≡ true) → count_by p times ≤ count_by q times
count_le p q m [] up h = omega arith
count_le p q m (t ∷ times) up h =
    let one = sum_by-cons (λ (x : ℕ). cond (p x) 1 0) t times in
    let two = sum_by-cons (λ (x : ℕ). cond (q x) 1 0) t times in
    let rest = count_le p q m times (omega arith) h in
    let both = step (p t) (q t) (count_by p times) (count_by q times) (h t (omega arith)) rest in
    omega arith

-- one more entry
pub total_more : (xs : List (Bor ℕ × Bor ℕ)) (x : Bor ℕ × Bor ℕ) → total (map deref_pair (xs ++ x ∷ [])) ≡ total (map deref_pair xs) + x.1.now
total_more [] x = let first = total_one (deref_pair x) [] in omega arith
total_more (y ∷ xs) x =
    let before = total_one (deref_pair y) (map deref_pair xs) in
    let after = total_one (deref_pair y) (map deref_pair (xs ++ x ∷ [])) in
    let rest = total_more xs x in
    omega arith

-- a running count goes on, up to its limit
pub count_more : (xs : List (Bor ℕ × Bor ℕ)) (x : Bor ℕ × Bor ℕ) (count now : ℕ) → count ≡ capped (total (map deref_pair xs))
    → now ≡ min (count + x.1.now) (2 ^ 64 - 1) → now ≡ capped (total (map deref_pair (xs ++ x ∷ [])))
count_more xs x count now before step = let more = total_more xs x in omega arith
