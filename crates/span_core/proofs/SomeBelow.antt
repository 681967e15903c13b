-- Whether a number below a limit passes a test.
use Rattle.std.proofs.Common.{◌≡◌, ℕ, ◌+◌, ◌<◌, zero, suc, Bool, true, false, refl, add-one, arith}
use Rattle.std.specs.Prelude.{◌||◌}
use Rattle.std.proofs.lemmas.Bool.{cases_eq, or_cases, or_left, or_right, or_from, false≢true}
use Rattle.std.proofs.Common.{⊎_elim}
use Rattle.span_core.specs.NumberSet.{some_below}

pub some_below-zero : (p : ℕ → Bool) → some_below 0 p ≡ false
unfolding some_below
some_below-zero p = refl

pub some_below-more : (n : ℕ) (p : ℕ → Bool) → some_below (n + 1) p ≡ (some_below n p || p n)
unfolding some_below
some_below-more n p = rw add-one refl

-- one number that passes settles it
pub some_below-found : (m : ℕ) (p : ℕ → Bool) (n : ℕ) → n < m → p n ≡ true → some_below m p ≡ true
unfolding some_below
some_below-found zero p n h t = absurd (omega arith)
some_below-found (suc m) p n h t =
    ⊎_elim
    (λ (e : n ≡ m). or_right (some_below m p) (p m) (cc))
    (λ (e : ¬ (n ≡ m)). or_left (some_below m p) (p m) (some_below-found m p n (omega arith) t))
    (cases_eq n m)

-- so do all of them, where none passes
pub some_below-none : (m : ℕ) (p : ℕ → Bool) → ((n : ℕ) → n < m → p n ≡ false) → some_below m p ≡ false
unfolding some_below
some_below-none zero p h = refl
some_below-none (suc m) p h =
    or_from (some_below m p) (p m) (some_below-none m p (λ n l. h n (omega arith))) (h m (omega arith))

-- the number that passes
pub some_below-passes : (m : ℕ) (p : ℕ → Bool) → some_below m p ≡ true → (n : ℕ) × ((n < m) × (p n ≡ true))
unfolding some_below
some_below-passes zero p t = absurd (false≢true t)
some_below-passes (suc m) p t =
    ⊎_elim
    (λ (e : some_below m p ≡ true). let found = some_below-passes m p e in (found.0, (omega arith, found.1.1)))
    (λ (e : p m ≡ true). (m, (omega arith, e)))
    (or_cases (some_below m p) (p m) t)

-- tests that agree below the limit
pub some_below-same : (m : ℕ) (p q : ℕ → Bool) → ((n : ℕ) → n < m → p n ≡ q n) → some_below m p ≡ some_below m q
unfolding some_below
some_below-same zero p q h = refl
some_below-same (suc m) p q h =
    let before : some_below m p ≡ some_below m q = some_below-same m p q (λ n l. h n (omega arith)) in
    let here : p m ≡ q m = h m (omega arith) in cc

or_swapped : (a b c d : Bool) → ((a || b) || (c || d)) ≡ ((a || c) || (b || d))
or_swapped true b c d = refl
or_swapped false true true d = refl
or_swapped false true false d = refl
or_swapped false false c d = refl

-- a test that asks whether one of two passes
pub some_below-or : (m : ℕ) (p q : ℕ → Bool) → some_below m (λ n. p n || q n) ≡ (some_below m p || some_below m q)
unfolding some_below
some_below-or zero p q = refl
some_below-or (suc m) p q =
    let before : some_below m (λ n. p n || q n) ≡ (some_below m p || some_below m q) = some_below-or m p q in
    rw before (or_swapped (some_below m p) (some_below m q) (p m) (q m))
