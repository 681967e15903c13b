-- Numbers and the bytes of them, the highest first.
use Rattle.std.proofs.Common.{◌≡◌, ◌∙◌, ◌<◌, ◌≤◌, ◌+◌, ◌*◌, ◌/◌, ◌%◌, ◌^◌, ℕ, zero, suc, List, [], ◌∷◌, ap, arith, length, refl, subst, sym}
use Rattle.std.specs.Int.{byte_at, bytes_high_first, from_be_bytes, to_be_bytes, w128, w64}
use Rattle.std.proofs.Math.Nat.{div-add-mod, div-one, mod-eq_of_lt, mod-lt, mul-add-mod_self_right, mul-le-mul_left, pow-suc}
use Rattle.std.proofs.lemmas.Nat.{div-mul-add}
use Rattle.hex.specs.Hex.{IsBytes}

-- the number of these bytes, the highest first
abbrev pub value : List ℕ → ℕ
value [] = 0
value (b ∷ bs) = b * 256 ^ length bs + value bs

power_grows : (p : ℕ) → 0 < p → 0 < p * 256
power_grows p h = omega arith

power_positive : (k : ℕ) → 0 < 256 ^ k
power_positive zero = omega arith
power_positive (suc k) = subst (λ (n : ℕ). 0 < n) (sym (pow-suc 256 k)) (power_grows (256 ^ k) (power_positive k))

one_more_byte : (b p v : ℕ) → b ≤ 255 → v < p → b * p + v < p * 256
one_more_byte b p v small below = omega (arith, mul-le-mul_left p small)

-- a number of k bytes is less than 256 ^ k
pub value_below : (bs : List ℕ) → IsBytes bs → value bs < 256 ^ length bs
value_below [] h = omega arith
value_below (b ∷ bs) h =
    let first : b < 256 = h 0 in
    subst (λ (n : ℕ). b * 256 ^ length bs + value bs < n) (sym (pow-suc 256 (length bs)))
    (one_more_byte b (256 ^ length bs) (value bs) (omega (arith, first)) (value_below bs (λ i. h (suc i))))

at_place : (k n : ℕ) → byte_at k n ≡ n / 256 ^ k % 256
at_place zero n = ap (λ (m : ℕ). m % 256) (sym (div-one n))
at_place (suc k) n = refl

grouped : (m b p v : ℕ) → m * (p * 256) + (b * p + v) ≡ (m * 256 + b) * p + v
grouped m b p v = omega arith

lowest : (m b : ℕ) → b < 256 → (m * 256 + b) % 256 ≡ b
lowest m b h = omega arith

-- the bytes of a number that some bytes are the lowest of are these
written_back : (bs : List ℕ) (m : ℕ) → IsBytes bs → bytes_high_first (length bs) (m * 256 ^ length bs + value bs) ≡ bs
written_back [] m h = refl
written_back (b ∷ bs) m h =
    let k = length bs in
    let rest : IsBytes bs = λ i. h (suc i) in
    let same : m * 256 ^ suc k + (b * 256 ^ k + value bs) ≡ (m * 256 + b) * 256 ^ k + value bs =
    ap (λ (p : ℕ). m * p + (b * 256 ^ k + value bs)) (pow-suc 256 k) ∙ grouped m b (256 ^ k) (value bs) in
    let first : byte_at k ((m * 256 + b) * 256 ^ k + value bs) ≡ b =
    at_place k ((m * 256 + b) * 256 ^ k + value bs)
    ∙ ap (λ (q : ℕ). q % 256) (div-mul-add (m * 256 + b) (256 ^ k) (value bs) (value_below bs rest)) ∙ lowest m b (h 0) in
    ap (bytes_high_first (suc k)) same
    ∙ ap (λ (c : ℕ). c ∷ bytes_high_first k ((m * 256 + b) * 256 ^ k + value bs)) first ∙ ap (λ (cs : List ℕ). b ∷ cs) (written_back bs (m * 256 + b) rest)

pub length_written : (k n : ℕ) → length (bytes_high_first k n) ≡ k
length_written zero n = refl
length_written (suc k) n = ap suc (length_written k n)

byte_small : (k n : ℕ) → byte_at k n < 256
byte_small k n = subst (λ (b : ℕ). b < 256) (sym (at_place k n)) (mod-lt (n / 256 ^ k) (omega arith))

-- what is written are bytes
pub written_bytes : (k n : ℕ) → IsBytes (bytes_high_first k n)
written_bytes zero n i = omega arith
written_bytes (suc k) n zero = byte_small k n
written_bytes (suc k) n (suc i) = written_bytes k n i

split_off : (n p q r a b : ℕ) → p * q + r ≡ n → 256 * a + b ≡ q → n ≡ a * (p * 256) + (b * p + r)
split_off n p q r a b whole high = sym whole ∙ ap (λ (m : ℕ). p * m + r) (sym high) ∙ spread a b p r
  where
    spread : (a b p r : ℕ) → p * (256 * a + b) + r ≡ a * (p * 256) + (b * p + r)
    spread a b p r = omega arith

-- the number of the lowest k bytes of a number
value_written : (k n : ℕ) → value (bytes_high_first k n) ≡ n % 256 ^ k
value_written zero n = omega arith
value_written (suc k) n =
    let p = 256 ^ k in
    let q = n / p in
    let r = n % p in
    let b = q % 256 in
    let whole : n ≡ q / 256 * (p * 256) + (b * p + r) = split_off n p q r (q / 256) b (div-add-mod n p) (div-add-mod q 256) in
    let byte : b < 256 = mod-lt q (omega arith) in
    let below : b * p + r < p * 256 = one_more_byte b p r (omega (arith, byte)) (mod-lt n (power_positive k)) in
    let here : value (bytes_high_first (suc k) n) ≡ b * p + r =
    ap (λ (l : ℕ). byte_at k n * 256 ^ l + value (bytes_high_first k n)) (length_written k n)
    ∙ ap (λ (c : ℕ). c * p + value (bytes_high_first k n)) (at_place k n) ∙ ap (λ (v : ℕ). b * p + v) (value_written k n) in
    here ∙ sym (mod-eq_of_lt below) ∙ sym (mul-add-mod_self_right (q / 256) (p * 256) (b * p + r))
    ∙ ap (λ (m : ℕ). m % (p * 256)) (sym whole) ∙ ap (λ (m : ℕ). n % m) (sym (pow-suc 256 k))

-- 16 bytes as a number
read_16 : (bs : List ℕ) → length bs ≡ 16 → from_be_bytes w128 bs ≡ value bs
read_16 (a ∷ b ∷ c ∷ d ∷ e ∷ f ∷ g ∷ h ∷ i ∷ j ∷ k ∷ l ∷ m ∷ n ∷ o ∷ p ∷ []) len = omega arith
read_16 (a ∷ b ∷ c ∷ d ∷ e ∷ f ∷ g ∷ h ∷ i ∷ j ∷ k ∷ l ∷ m ∷ n ∷ o ∷ p ∷ q ∷ bs) len = absurd (omega arith)
read_16 [] len = absurd (omega arith)
read_16 (a ∷ []) len = absurd (omega arith)
read_16 (a ∷ b ∷ []) len = absurd (omega arith)
read_16 (a ∷ b ∷ c ∷ []) len = absurd (omega arith)
read_16 (a ∷ b ∷ c ∷ d ∷ []) len = absurd (omega arith)
read_16 (a ∷ b ∷ c ∷ d ∷ e ∷ []) len = absurd (omega arith)
read_16 (a ∷ b ∷ c ∷ d ∷ e ∷ f ∷ []) len = absurd (omega arith)
read_16 (a ∷ b ∷ c ∷ d ∷ e ∷ f ∷ g ∷ []) len = absurd (omega arith)
read_16 (a ∷ b ∷ c ∷ d ∷ e ∷ f ∷ g ∷ h ∷ []) len = absurd (omega arith)
read_16 (a ∷ b ∷ c ∷ d ∷ e ∷ f ∷ g ∷ h ∷ i ∷ []) len = absurd (omega arith)
read_16 (a ∷ b ∷ c ∷ d ∷ e ∷ f ∷ g ∷ h ∷ i ∷ j ∷ []) len = absurd (omega arith)
read_16 (a ∷ b ∷ c ∷ d ∷ e ∷ f ∷ g ∷ h ∷ i ∷ j ∷ k ∷ []) len = absurd (omega arith)
read_16 (a ∷ b ∷ c ∷ d ∷ e ∷ f ∷ g ∷ h ∷ i ∷ j ∷ k ∷ l ∷ []) len = absurd (omega arith)
read_16 (a ∷ b ∷ c ∷ d ∷ e ∷ f ∷ g ∷ h ∷ i ∷ j ∷ k ∷ l ∷ m ∷ []) len = absurd (omega arith)
read_16 (a ∷ b ∷ c ∷ d ∷ e ∷ f ∷ g ∷ h ∷ i ∷ j ∷ k ∷ l ∷ m ∷ n ∷ []) len = absurd (omega arith)
read_16 (a ∷ b ∷ c ∷ d ∷ e ∷ f ∷ g ∷ h ∷ i ∷ j ∷ k ∷ l ∷ m ∷ n ∷ o ∷ []) len = absurd (omega arith)

-- 8 bytes as a number
read_8 : (bs : List ℕ) → length bs ≡ 8 → from_be_bytes w64 bs ≡ value bs
read_8 (a ∷ b ∷ c ∷ d ∷ e ∷ f ∷ g ∷ h ∷ []) len = omega arith
read_8 (a ∷ b ∷ c ∷ d ∷ e ∷ f ∷ g ∷ h ∷ i ∷ bs) len = absurd (omega arith)
read_8 [] len = absurd (omega arith)
read_8 (a ∷ []) len = absurd (omega arith)
read_8 (a ∷ b ∷ []) len = absurd (omega arith)
read_8 (a ∷ b ∷ c ∷ []) len = absurd (omega arith)
read_8 (a ∷ b ∷ c ∷ d ∷ []) len = absurd (omega arith)
read_8 (a ∷ b ∷ c ∷ d ∷ e ∷ []) len = absurd (omega arith)
read_8 (a ∷ b ∷ c ∷ d ∷ e ∷ f ∷ []) len = absurd (omega arith)
read_8 (a ∷ b ∷ c ∷ d ∷ e ∷ f ∷ g ∷ []) len = absurd (omega arith)

back_at : (k : ℕ) (bs : List ℕ) → length bs ≡ k → IsBytes bs → bytes_high_first k (value bs) ≡ bs
back_at k bs len h =
    ap (λ (j : ℕ). bytes_high_first j (value bs)) (sym len)
    ∙ ap (bytes_high_first (length bs)) (plain (256 ^ length bs) (value bs)) ∙ written_back bs 0 h
  where
    plain : (p v : ℕ) → v ≡ 0 * p + v
    plain p v = omega arith

-- the number of 16 bytes is written as these
pub back_16 : (bs : List ℕ) → length bs ≡ 16 → IsBytes bs → to_be_bytes w128 (from_be_bytes w128 bs) ≡ bs
back_16 bs len h = ap (bytes_high_first 16) (read_16 bs len) ∙ back_at 16 bs len h

-- the number of 8 bytes is written as these
pub back_8 : (bs : List ℕ) → length bs ≡ 8 → IsBytes bs → to_be_bytes w64 (from_be_bytes w64 bs) ≡ bs
back_8 bs len h = ap (bytes_high_first 8) (read_8 bs len) ∙ back_at 8 bs len h

-- 16 bytes are a number below 2 ^ 128
pub fits_16 : (bs : List ℕ) → length bs ≡ 16 → IsBytes bs → from_be_bytes w128 bs < 2 ^ 128
fits_16 bs len h =
    subst (λ (n : ℕ). n < 2 ^ 128) (sym (read_16 bs len)) (subst (λ (k : ℕ). value bs < 256 ^ k) len (value_below bs h))

-- 8 bytes are a number below 2 ^ 64
pub fits_8 : (bs : List ℕ) → length bs ≡ 8 → IsBytes bs → from_be_bytes w64 bs < 2 ^ 64
fits_8 bs len h =
    subst (λ (n : ℕ). n < 2 ^ 64) (sym (read_8 bs len)) (subst (λ (k : ℕ). value bs < 256 ^ k) len (value_below bs h))

-- a number of 16 bytes is read as it was written
pub again_16 : (n : ℕ) → n < 2 ^ 128 → from_be_bytes w128 (to_be_bytes w128 n) ≡ n
again_16 n h = read_16 (bytes_high_first 16 n) (length_written 16 n) ∙ value_written 16 n ∙ mod-eq_of_lt h

-- a number of 8 bytes is read as it was written
pub again_8 : (n : ℕ) → n < 2 ^ 64 → from_be_bytes w64 (to_be_bytes w64 n) ≡ n
again_8 n h = read_8 (bytes_high_first 8 n) (length_written 8 n) ∙ value_written 8 n ∙ mod-eq_of_lt h
