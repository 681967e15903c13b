-- A wait that is doubled up to a most.
use Rattle.std.proofs.Common.{◌≡◌, ℕ, ◌+◌, ◌*◌, ◌^◌, ◌≤◌, ◌∙◌, ap, sym, min, arith, mul_assoc}
use Rattle.std.proofs.lemmas.Nat.{pow-add}

doubled : (a m top : ℕ) → m ≤ top → min (min (min a m * 2) top) m ≡ min (a * 2) m
doubled a m top h = omega arith

pub power : (first n m top : ℕ) → m ≤ top
    → min (min (min (first * 2 ^ n) m * 2) top) m ≡ min (first * 2 ^ (n + 1)) m
power first n m top h =
    let e : first * 2 ^ (n + 1) ≡ first * 2 ^ n * 2 =
    ap (λ (x : ℕ). first * x) (pow-add 2 n 1) ∙ sym (mul_assoc first (2 ^ n) 2) in
    rw e (doubled (first * 2 ^ n) m top h)
