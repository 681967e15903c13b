-- A word as a set of numbers: number n is in it where bit n is 1.
use Rattle.std.proofs.Common.{◌≡◌, ℕ, ◌+◌, ◌-◌, ◌*◌, ◌%◌, ◌^◌, ◌<◌, ◌≤◌, zero, suc, min, max, Bool, true, false, cond, refl, sym, ap, ◌∙◌, ⊎_elim, ◌==◌, not}
use Rattle.std.proofs.Common.{◌&&◌, ◌↔◌, IsTrue, IsBitSet, bit_and, bit_or, subst, pow-suc, arith}
use Rattle.std.specs.Prelude.{if◌then◌else◌}
use Rattle.std.specs.Int.{bit_at, trailing_zeros, w128}
use Rattle.std.proofs.lemmas.Bool.{and_left, cases_Bool, cases_eq, cases_lt, eq-eqb, eqb-true, eqb-false, ne_eqb, not_from_false, not_from_true}
use Rattle.std.proofs.lemmas.Nat.{and_le_l, bit_set_by_shift, one_shl}
use Rattle.std.proofs.lemmas.Nat.Bits.{bit_at-lt, bit_at-pow_other, bit_at-pow_same, bit_at-trailing_zeros, bit_at-zero, bit_at_above, bit_at_and}
use Rattle.std.proofs.lemmas.Nat.Bits.{bit_at_cat_high, bit_at_cat_low, bit_at_not, bit_at_or, same_from_bits_below, shr_and_one}
use Rattle.span_core.specs.NumberSet.{some_below}
use Rattle.span_core.proofs.SomeBelow.{some_below-found, some_below-none}

-- whether bit n of the word is 1
abbrev pub is_one : ℕ → ℕ → Bool
is_one word n = bit_at word n == 1

-- a bit that is 0
pub is_one-zero : (word n : ℕ) → bit_at word n ≡ 0 → is_one word n ≡ false
is_one-zero word n h = ap (λ d. d == 1) h

-- a bit that is 1
pub is_one-one : (word n : ℕ) → bit_at word n ≡ 1 → is_one word n ≡ true
is_one-one word n h = ap (λ d. d == 1) h

-- no bit of a word is 1 from 128 on
pub none_past : (word n : ℕ) → word < 2 ^ 128 → 128 ≤ n → is_one word n ≡ false
none_past word n fits past = is_one-zero word n (bit_at_above word 128 n fits past)

pub is_one-below : (word n : ℕ) → word < 2 ^ 128 → is_one word n ≡ true → n < 128
is_one-below word n fits h =
    ⊎_elim
    (λ (l : n < 128). l)
    (λ (l : 128 ≤ n). let no = none_past word n fits l in absurd (cc))
    (cases_lt n 128)

-- `1 << k`
pub is_one-shifted : (k n : ℕ) → k < 128 → is_one (1 * 2 ^ k % 2 ^ 128) n ≡ (n == k)
is_one-shifted k n h =
    ap (λ word. is_one word n) (one_shl k 128 h)
    ∙ ⊎_elim
    (λ (e : n ≡ k). is_one-one (2 ^ k) n (ap (bit_at (2 ^ k)) e ∙ bit_at-pow_same k) ∙ sym (eq-eqb n k e))
    (λ (e : n ≡ k → ⊥). is_one-zero (2 ^ k) n (bit_at-pow_other k n e) ∙ sym (ne_eqb n k e))
    (cases_eq n k)

both_one : (x y : ℕ) → x < 2 → y < 2 → (min x y == 1) ≡ ((x == 1) && (y == 1))
both_one zero zero p q = refl
both_one zero (suc zero) p q = refl
both_one (suc zero) zero p q = refl
both_one (suc zero) (suc zero) p q = refl
both_one (suc (suc x)) y p q = absurd (omega arith)
both_one x (suc (suc y)) p q = absurd (omega arith)

-- `a & b`
pub is_one-and : (a b n : ℕ) → is_one (bit_and a b) n ≡ (is_one a n && is_one b n)
is_one-and a b n = ap (λ d. d == 1) (bit_at_and a b n) ∙ both_one (bit_at a n) (bit_at b n) (bit_at-lt a n) (bit_at-lt b n)

either_one : (x y : ℕ) → x < 2 → y < 2 → (max x y == 1) ≡ (if y == 1 then true else (x == 1))
either_one zero zero p q = refl
either_one zero (suc zero) p q = refl
either_one (suc zero) zero p q = refl
either_one (suc zero) (suc zero) p q = refl
either_one (suc (suc x)) y p q = absurd (omega arith)
either_one x (suc (suc y)) p q = absurd (omega arith)

-- `a | b`
pub is_one-or : (a b n : ℕ) → is_one (bit_or a b) n ≡ (if is_one b n then true else is_one a n)
is_one-or a b n = ap (λ d. d == 1) (bit_at_or a b n) ∙ either_one (bit_at a n) (bit_at b n) (bit_at-lt a n) (bit_at-lt b n)

first_one : (x y : ℕ) → x < 2 → y < 2 → (min x (1 - y) == 1) ≡ (if y == 1 then false else (x == 1))
first_one zero zero p q = refl
first_one zero (suc zero) p q = refl
first_one (suc zero) zero p q = refl
first_one (suc zero) (suc zero) p q = refl
first_one (suc (suc x)) y p q = absurd (omega arith)
first_one x (suc (suc y)) p q = absurd (omega arith)

-- `a & !b`
pub is_one-without : (a b n : ℕ) → a < 2 ^ 128 → b < 2 ^ 128 → is_one (bit_and a (2 ^ 128 - 1 - b)) n ≡ (if is_one b n then false else is_one a n)
is_one-without a b n p q =
    ⊎_elim
    (λ (l : n < 128).
    ap (λ d. d == 1) (bit_at_and a (2 ^ 128 - 1 - b) n ∙ ap (min (bit_at a n)) (bit_at_not w128 b n q l))
    ∙ first_one (bit_at a n) (bit_at b n) (bit_at-lt a n) (bit_at-lt b n))
    (λ (l : 128 ≤ n).
    is_one-and a (2 ^ 128 - 1 - b) n ∙ and_left _ _ (none_past a n p l)
    ∙ (λ i. if sym (none_past b n q l) i then false else sym (none_past a n p l) i))
    (cases_lt n 128)

-- a word that isn't 0 has a bit that is 1
lowest_one : (word : ℕ) → word < 2 ^ 128 → (word == 0) ≡ false → (n : ℕ) × ((n < 128) × (is_one word n ≡ true))
lowest_one word fits h =
    let apart = eqb-false word 0 h in
    let lowest = bit_at-trailing_zeros w128 word (omega (arith, apart)) fits in
    (trailing_zeros w128 word, (lowest.0, is_one-one word (trailing_zeros w128 word) lowest.1))

-- `a & b != 0`
pub meets-some : (a b : ℕ) → a < 2 ^ 128 → not (bit_and a b == 0) ≡ some_below 128 (λ n. is_one a n && is_one b n)
meets-some a b fits =
    ⊎_elim
    (λ (h : (bit_and a b == 0) ≡ true).
    let none : bit_and a b ≡ 0 = eqb-true (bit_and a b) 0 h in
    not_from_true _ h
    ∙ sym
    (some_below-none 128 (λ n. is_one a n && is_one b n) (λ n l. sym (is_one-and a b n) ∙ ap (λ word. is_one word n) none ∙ is_one-zero 0 n (bit_at-zero n))))
    (λ (h : (bit_and a b == 0) ≡ false).
    let within = and_le_l a b in
    let found = lowest_one (bit_and a b) (omega (arith, within)) h in
    not_from_false _ h
    ∙ sym (some_below-found 128 (λ n. is_one a n && is_one b n) found.0 found.1.0 (sym (is_one-and a b found.0) ∙ found.1.1)))
    (cases_Bool (bit_and a b == 0))

-- the bit as std has it
pub is_one-set : (word n : ℕ) → IsBitSet word n ↔ IsTrue (is_one word n)
is_one-set word n =
    let shifted = bit_set_by_shift word n in (
      λ (h : IsBitSet word n). is_one-one word n (sym (shr_and_one word n) ∙ shifted.1 h),
      λ (h : IsTrue (is_one word n)). shifted.0 (shr_and_one word n ∙ eqb-true (bit_at word n) 1 h),
    )

same_bit : (x y : ℕ) → x < 2 → y < 2 → (x == 1) ≡ (y == 1) → x ≡ y
same_bit zero zero p q h = refl
same_bit zero (suc zero) p q h = absurd (cc)
same_bit (suc zero) zero p q h = absurd (cc)
same_bit (suc zero) (suc zero) p q h = refl
same_bit (suc (suc x)) y p q h = absurd (omega arith)
same_bit x (suc (suc y)) p q h = absurd (omega arith)

-- words with the same bits
pub same_words : (a b : ℕ) → a < 2 ^ 128 → b < 2 ^ 128 → ((n : ℕ) → n < 128 → is_one a n ≡ is_one b n) → a ≡ b
same_words a b p q h = same_from_bits_below 128 a b p q (λ n l. same_bit (bit_at a n) (bit_at b n) (bit_at-lt a n) (bit_at-lt b n) (h n l))

-- ---- a word cut down to a set

-- the word's bits below k, those outside the set taken out
abbrev pub cut_word : (ℕ → Bool) → ℕ → ℕ → ℕ
cut_word numbers zero word = 0
cut_word numbers (suc k) word = cond (numbers k && is_one word k) 1 0 * 2 ^ k + cut_word numbers k word

bit_fits : (b : Bool) (k : ℕ) → cond b 1 0 * 2 ^ k ≤ 2 ^ k
bit_fits true k = omega arith
bit_fits false k = omega arith

bit_is : (b : Bool) → is_one (cond b 1 0) 0 ≡ b
bit_is true = refl
bit_is false = refl

pub cut_word-fits : (numbers : ℕ → Bool) (k word : ℕ) → cut_word numbers k word < 2 ^ k
cut_word-fits numbers zero word = omega arith
cut_word-fits numbers (suc k) word =
    let before = cut_word-fits numbers k word in
    let bit = bit_fits (numbers k && is_one word k) k in
    omega (arith, before, bit, pow-suc 2 k)

pub cut_word-bit : (numbers : ℕ → Bool) (k word n : ℕ) → n < k → is_one (cut_word numbers k word) n ≡ (numbers n && is_one word n)
cut_word-bit numbers zero word n l = absurd (omega arith)
cut_word-bit numbers (suc k) word n l =
    let bit : ℕ = cond (numbers k && is_one word k) 1 0 in
    let rest : ℕ = cut_word numbers k word in
    ⊎_elim
    (λ (e : n ≡ k).
    let here : is_one (bit * 2 ^ k + rest) k ≡ (numbers k && is_one word k) =
    let first : k - k ≡ 0 = omega arith in
    ap (λ d. d == 1) (bit_at_cat_high bit k rest k (cut_word-fits numbers k word) (omega arith))
    ∙ ap (is_one bit) first ∙ bit_is (numbers k && is_one word k) in
    subst (λ j. is_one (bit * 2 ^ k + rest) j ≡ (numbers j && is_one word j)) (sym e) here)
    (λ (e : n ≡ k → ⊥).
    let low : n < k = omega (arith, e) in
    ap (λ d. d == 1) (bit_at_cat_low bit k rest n low) ∙ cut_word-bit numbers k word n low)
    (cases_eq n k)
