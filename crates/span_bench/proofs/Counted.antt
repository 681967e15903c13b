-- Counting up to a limit.
use Rattle.std.proofs.Common.{arith, ℕ, ◌≡◌, ◌≤◌, ◌+◌, min}

-- with those to come, all that were counted are all there are
abbrev pub Counts : ℕ → ℕ → ℕ → ℕ → Type 0
Counts count left all top = (count ≤ top) × (min (count + left) top ≡ min all top)

-- nothing is left, so all were counted
pub all_counted : (count left all n top : ℕ) → Counts count left all top → left ≡ 0 → all ≡ n → count ≡ min n top
all_counted count left all n top h none same = let k = h.0 in let e = h.1 in omega arith
