-- The bucket in which a quantile lies.
use Rattle.std.proofs.Common.{arith, ◌≡◌, ◌∙◌, ◌<◌, ◌≤◌, ◌+◌, ◌-◌, ◌*◌, ◌/◌, ◌^◌, ℕ, true, List, ◌∷◌, ◌++◌, ap, leb, length, ltb, min, subst, sym}
use Rattle.std.proofs.Common.{if◌then◌else◌}
use Rattle.std.proofs.Math.Nat.{mul_comm, mul-le-mul_left}
use Rattle.std.proofs.lemmas.Bool.{le-leb, le-ltb, lt-ltb, ltb-true}
use Rattle.std.proofs.lemmas.List.Sums.{sum_by-append, sum_by-cons}
use Rattle.std.specs.List.{count_by}
use Rattle.std.specs.List.Sorted.{IsStrictlySortedBy}
use Rattle.std.specs.Map.{keys_of}
use Rattle.std.specs.Ordering.{nat_cmp}
use Rattle.span_timing.proofs.Bucket.{end_behind, end_close}
use Rattle.span_timing.proofs.Ranks.{below, count_le, split_below, total}
use Rattle.span_timing.specs.Histogram.{Counts, IsQuantile, bucket_end, counts_in, greatest, most_in}
use Rattle.span_timing.specs.declared.histogram.Histogram.{Histogram}
use Rattle.span_times.specs.Measure.{capped}

inside : (t end bucket most m : ℕ) → most ≡ m → t ≤ m → t ≤ bucket → ltb bucket (end + 1) ≡ true → leb t (min most end) ≡ true
inside t end bucket most m same up behind h = let lies = ltb-true bucket (end + 1) h in le-leb t (min most end) (omega arith)

before : (s end bucket most : ℕ) → bucket ≤ s → ltb s (min most end) ≡ true → ltb bucket end ≡ true
before s end bucket most close h = let lies = ltb-true s (min most end) h in lt-ltb bucket end (omega arith)

enough : (parts whole n now count : ℕ) → n * parts ≤ now * whole → now ≤ count → parts * n ≤ whole * count
enough parts whole n now count reached le =
    let more = mul-le-mul_left {m = now} {n = count} whole le in
    let left = mul_comm parts n in
    let right = mul_comm whole now in
    sums (parts * n) (n * parts) (now * whole) (whole * now) (whole * count) left reached right more
  where
    sums : (a b c d e : ℕ) → a ≡ b → b ≤ c → d ≡ c → d ≤ e → a ≤ e
    sums a b c d e p q r s = omega arith

close : (parts whole n so_far count : ℕ) → so_far * whole < n * parts → count ≤ so_far → whole * count < parts * n
close parts whole n so_far count short le =
    let more = mul-le-mul_left {m = count} {n = so_far} whole le in
    let left = mul_comm parts n in
    let right = mul_comm whole so_far in
    sums (whole * count) (whole * so_far) (so_far * whole) (n * parts) (parts * n) more right short left
  where
    sums : (a b c d e : ℕ) → a ≤ b → b ≡ c → c < d → e ≡ d → a < e
    sums a b c d e p q r s = omega arith

-- the first entry up to which so many parts are counted
pub ranked : (h : Histogram) (times : List ℕ) (parts whole : ℕ) (done : List (ℕ × ℕ)) (e : ℕ × ℕ) (rest : List (ℕ × ℕ)) (so_far now : ℕ)
    → Counts times h → length times < 2 ^ 64 → counts_in h ≡ done ++ e ∷ rest → IsStrictlySortedBy nat_cmp (keys_of (counts_in h))
    → so_far ≡ capped (total done) → now ≡ min (so_far + e.1) (2 ^ 64 - 1) → length times * parts ≤ now * whole
    → so_far * whole < length times * parts → IsQuantile parts whole times (min (most_in h) e.0)
ranked h times parts whole done e rest so_far now was fits split sorted counted counts reached short =
    let es = done ++ e ∷ rest in
    let P : List (ℕ × ℕ) → Type 0 = λ xs. IsStrictlySortedBy nat_cmp (keys_of xs) in
    let in_order : IsStrictlySortedBy nat_cmp (keys_of es) = subst P split sorted in
    let all : total es ≡ length times = ap total (sym split) ∙ was.all in
    let joined : total es ≡ total done + total (e ∷ rest) = sum_by-append (λ (x : ℕ × ℕ). x.1) done (e ∷ rest) in
    let first : total (e ∷ rest) ≡ e.1 + total rest = sum_by-cons (λ (x : ℕ × ℕ). x.1) e rest in
    let room : total done + e.1 ≤ length times = omega arith in
    let here : so_far ≡ total done = omega arith in
    let there : now ≡ total done + e.1 = omega arith in
    let up : below (e.0 + 1) es ≡ total done + e.1 =
    split_below (e.0 + 1) done e rest (omega arith) (omega arith) in_order
    ∙ ap (λ b. total done + (if b then e.1 else 0)) (lt-ltb e.0 (e.0 + 1) (omega arith)) in
    let down : below e.0 es ≡ total done + 0 =
    split_below e.0 done e rest (omega arith) (omega arith) in_order
    ∙ ap (λ b. total done + (if b then e.1 else 0)) (le-ltb e.0 e.0 (omega arith)) in
    let upper : below (e.0 + 1) es ≡ count_by (λ (t : ℕ). ltb (bucket_end t) (e.0 + 1)) times = ap (below (e.0 + 1)) (sym split) ∙ was.below (e.0 + 1) in
    let lower : below e.0 es ≡ count_by (λ (t : ℕ). ltb (bucket_end t) e.0) times = ap (below e.0) (sym split) ∙ was.below e.0 in
    let within = count_le (λ t. ltb (bucket_end t) (e.0 + 1)) (λ t. leb t (min (most_in h) e.0)) (greatest times) times (omega arith)
    (λ t le lies. inside t e.0 (bucket_end t) (most_in h) (greatest times) was.most le (end_behind t) lies) in
    let under = count_le (λ t. ltb (t + t / 16) (min (most_in h) e.0)) (λ t. ltb (bucket_end t) e.0) (greatest times) times (omega arith)
    (λ t le lies. before (t + t / 16) e.0 (bucket_end t) (most_in h) (end_close t) lies) in
    record {
      enough = enough parts whole (length times) now (count_by (λ (t : ℕ). leb t (min (most_in h) e.0)) times) reached (omega arith);
      close = close parts whole (length times) so_far (count_by (λ (t : ℕ). ltb (t + t / 16) (min (most_in h) e.0)) times) short (omega arith);
    }

-- how many times there are is counted
pub all_counted : (h : Histogram) (times : List ℕ) (n : ℕ) → Counts times h → length times < 2 ^ 64 → n ≡ capped (total (counts_in h)) → n ≡ length times
all_counted h times n was fits e = let all : total (counts_in h) ≡ length times = was.all in omega arith

-- all entries count what is wanted
pub none_left : (n parts whole count : ℕ) → count ≡ n → parts ≤ whole → count * whole < n * parts → ⊥
none_left n parts whole count e le short =
    let more = mul-le-mul_left {m = parts} {n = whole} n le in
    let same : count * whole ≡ n * whole = ap (λ k. k * whole) e in
    sums (count * whole) (n * whole) (n * parts) same more short
  where
    sums : (a b c : ℕ) → a ≡ b → c ≤ b → a < c → ⊥
    sums a b c p q r = omega arith
