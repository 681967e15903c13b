-- How wide buckets are.
use Rattle.std.proofs.Common.{arith, ◌≡◌, ◌<◌, ◌≤◌, ◌+◌, ◌-◌, ◌*◌, ◌/◌, ◌%◌, ◌^◌, ◌∙◌, ℕ, suc, ap, max, refl, subst, sym, ⊎_elim}
use Rattle.std.proofs.Math.Nat.{div-add-mod, div-lt_iff_lt-mul, mod-lt, mul_comm, mul-le-mul_right, suc-mul}
use Rattle.std.proofs.Math.Pow.{pow_mono}
use Rattle.std.proofs.lemmas.Bool.{cases_lt}
use Rattle.std.proofs.lemmas.Nat.{leading_top, pow-add, pow_pos}
use Rattle.std.specs.Int.{leading_zeros, w64}
use Rattle.span_timing.specs.Histogram.{bucket_end, bucket_width}

-- a bucket is no wider than a sixteenth of what lies in it, or 1
pub record IsNarrow (t : ℕ) : Type 0 where
  pub leading : leading_zeros w64 (max t 16) ≤ 59
  pub wide : 0 < bucket_width t
  pub narrow : 16 * bucket_width t ≤ max t 16
  pub whole : (n : ℕ) × (n * bucket_width t ≡ 2 ^ 64)

sixteen : (k : ℕ) → 16 * 2 ^ k ≡ 2 ^ (4 + k)
sixteen k = sym (pow-add 2 4 k)

at_power : (t z j : ℕ) → z ≡ leading_zeros w64 (max t 16) → z + suc j ≡ 64 → 2 ^ j ≤ max t 16 → max t 16 < 2 ^ suc j → IsNarrow t
at_power t z j e size low high =
    let deep : 4 ≤ j = ⊎_elim (λ (h : j < 4). absurd (small j h high)) (λ h. h) (cases_lt j 4) in
    let width : 59 - z ≡ j - 4 = omega arith in
    let now : 59 - leading_zeros w64 (max t 16) ≡ j - 4 = ap (λ n. 59 - n) (sym e) ∙ width in
    let power : bucket_width t ≡ 2 ^ (j - 4) = ap (λ n. 2 ^ n) now in
    let scaled : 16 * 2 ^ (j - 4) ≡ 2 ^ j = sixteen (j - 4) ∙ ap (λ n. 2 ^ n) (back j deep) in
    let positive : 0 < 2 ^ (j - 4) = pow_pos (j - 4) in
    let fits : 2 ^ (64 - (j - 4)) * 2 ^ (j - 4) ≡ 2 ^ 64 = sym (pow-add 2 (64 - (j - 4)) (j - 4)) ∙ ap (λ n. 2 ^ n) (whole j (omega arith)) in
    record {
      leading = omega arith;
      wide = omega arith;
      narrow = omega arith;
      whole = (2 ^ (64 - (j - 4)), ap (λ n. 2 ^ (64 - (j - 4)) * n) power ∙ fits);
    }
  where
    back : (j : ℕ) → 4 ≤ j → 4 + (j - 4) ≡ j
    back j h = omega arith

    whole : (j : ℕ) → j ≤ 64 → (64 - (j - 4)) + (j - 4) ≡ 64
    whole j h = omega arith

    small : (j : ℕ) → j < 4 → max t 16 < 2 ^ suc j → ⊥
    small j h high = let up : 2 ^ suc j ≤ 2 ^ 4 = pow_mono {i = suc j} {j = 4} (omega arith) in omega arith

pub narrow : (t : ℕ) → t < 2 ^ 64 → IsNarrow t
narrow t fits =
    let top = leading_top 64 (max t 16) (omega arith) (omega arith) in
    at_power t (leading_zeros w64 (max t 16)) top.0 refl top.1 top.2 top.3

-- the end of a time's bucket is a time
pub end_fits : (t w n : ℕ) → 0 < w → n * w ≡ 2 ^ 64 → t < 2 ^ 64 → t - t % w + (w - 1) < 2 ^ 64
end_fits t w n wide whole fits =
    let P : ℕ → Type 0 = λ k. t < k in
    let inside : t < n * w = subst P (sym whole) fits in
    let below : t / w < n = (div-lt_iff_lt-mul {k = w} {x = t} {y = n} wide).1 inside in
    let next : suc (t / w) * w ≤ n * w = mul-le-mul_right {m = suc (t / w)} {n = n} w below in
    let more : suc (t / w) * w ≡ t / w * w + w = suc-mul (t / w) w in
    let split : w * (t / w) + t % w ≡ t = div-add-mod t w in
    let turned : w * (t / w) ≡ t / w * w = mul_comm w (t / w) in
    sums t (t % w) (t / w * w) (w * (t / w)) w (suc (t / w) * w) (n * w) next more split turned whole wide
  where
    sums : (t r q p w m n : ℕ) → m ≤ n → m ≡ q + w → p + r ≡ t → p ≡ q → n ≡ 2 ^ 64 → 0 < w → t - r + (w - 1) < 2 ^ 64
    sums t r q p w m n a b c d e f = omega arith

-- the bucket of any time is as narrow
pub slim : (t : ℕ) → 16 * bucket_width t ≤ max t 16
slim t = ⊎_elim (λ (h : t < 2 ^ 64). (narrow t h).narrow) (λ (h : 2 ^ 64 ≤ t). large t h) (cases_lt t (2 ^ 64))
  where
    large : (t : ℕ) → 2 ^ 64 ≤ t → 16 * bucket_width t ≤ max t 16
    large t h = let up : bucket_width t ≤ 2 ^ 59 = pow_mono {i = 59 - leading_zeros w64 (max t 16)} {j = 59} (omega arith) in omega arith

-- a time isn't behind the end of its bucket
pub end_behind : (t : ℕ) → t ≤ bucket_end t
end_behind t = sums t (t % bucket_width t) (bucket_width t) (mod-lt t (pow_pos (59 - leading_zeros w64 (max t 16))))
  where
    sums : (t r w : ℕ) → r < w → t ≤ t - r + (w - 1)
    sums t r w h = omega arith

-- nor is that end more than a sixteenth behind the time
pub end_close : (t : ℕ) → bucket_end t ≤ t + t / 16
end_close t = sums t (t % bucket_width t) (bucket_width t) (slim t)
  where
    sums : (t r w : ℕ) → 16 * w ≤ max t 16 → t - r + (w - 1) ≤ t + t / 16
    sums t r w h = omega arith
