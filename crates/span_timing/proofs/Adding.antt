-- One more time in a histogram.
use Rattle.std.proofs.Common.{arith, ◌≡◌, ◌∙◌, ◌<◌, ◌≤◌, ◌+◌, ◌-◌, ◌^◌, ℕ, Bool, true, false, List, [], ◌∷◌, ◌++◌, Option, None, Some, ap, cond, length}
use Rattle.std.proofs.Common.{length-append, ltb, max, min, refl, sym, unwrap_or, if◌then◌else◌}
use Rattle.std.proofs.lemmas.List.Sums.{sum_by_push}
use Rattle.std.specs.BTreeMap.{insert_entry, is_at}
use Rattle.std.specs.List.{sum_by}
use Rattle.std.specs.List.Sorted.{IsStrictlySortedBy}
use Rattle.std.specs.Map.{keys_of, lookup}
use Rattle.std.specs.Ordering.{nat_cmp}
use Rattle.span_timing.proofs.Counting.{found_weight, put_weight}
use Rattle.span_timing.specs.Histogram.{Counts, bucket_end, counted_below, counts_in, greatest, most_in}
use Rattle.span_timing.specs.declared.histogram.Histogram.{Histogram}

-- one more time
pub greatest_more : (times : List ℕ) (t : ℕ) → greatest (times ++ t ∷ []) ≡ max (greatest times) t
greatest_more [] t = omega arith
greatest_more (s ∷ times) t = let rest = greatest_more times t in omega arith

abbrev all : ℕ → ℕ → ℕ
all k n = n

abbrev under : ℕ → ℕ → ℕ → ℕ
under end k n = if ltb k end then n else 0

weigh_all : (k : ℕ) (found : Option ℕ) → found_weight all k found ≡ unwrap_or found 0
weigh_all k None = refl
weigh_all k (Some n) = refl

none_under : (b : Bool) (z : ℕ) → z ≡ (if b then z else z)
none_under true z = refl
none_under false z = refl

weigh_under : (end k : ℕ) (found : Option ℕ) → found_weight (under end) k found ≡ (if ltb k end then unwrap_or found 0 else 0)
weigh_under end k None = none_under (ltb k end) 0
weigh_under end k (Some n) = refl

one_more : (b : Bool) (new old s v : ℕ) → v ≡ s + 1 → new + (if b then s else 0) ≡ old + (if b then v else 0) → new ≡ old + cond b 1 0
one_more true new old s v more e = omega arith
one_more false new old s v more e = omega arith

-- one more time is counted
pub added : (h g : Histogram) (times : List ℕ) (t so_far : ℕ) → length (times ++ t ∷ []) < 2 ^ 64 → Counts times h
    → IsStrictlySortedBy nat_cmp (keys_of (counts_in h))
    → so_far ≡ unwrap_or (lookup (is_at (nat_cmp (bucket_end t))) (counts_in h)) 0
    → counts_in g ≡ insert_entry nat_cmp (counts_in h) (bucket_end t) (min (so_far + 1) (2 ^ 64 - 1))
    → most_in g ≡ max (most_in h) t → Counts (times ++ t ∷ []) g
added h g times t so_far fits was sorted read put most =
    let k = bucket_end t in
    let es = counts_in h in
    let v = min (so_far + 1) (2 ^ 64 - 1) in
    let found = lookup (is_at (nat_cmp k)) es in
    let long = length-append times (t ∷ []) in
    let zero_put = put_weight all k 0 es sorted in
    let same = weigh_all k found in
    let whole : sum_by (λ (e : ℕ × ℕ). e.1) es ≡ length times = was.all in
    let room : so_far ≤ length times = omega arith in
    let next : v ≡ so_far + 1 = omega arith in
    let all_put = put_weight all k v es sorted in
    record {
      below = λ end.
          let under_put = put_weight (under end) k v es sorted in
          let weighed = weigh_under end k found ∙ ap (λ n. if ltb k end then n else 0) (sym read) in
          let pushed = sum_by_push (λ (s : ℕ). cond (ltb (bucket_end s) end) 1 0) times t in
          let grown = one_more (ltb k end) (sum_by (λ (e : ℕ × ℕ). under end e.0 e.1) (insert_entry nat_cmp es k v))
          (counted_below end h) so_far
          v next (sym (ap (λ n. sum_by (λ (e : ℕ × ℕ). under end e.0 e.1) (insert_entry nat_cmp es k v) + n) weighed) ∙ under_put) in
          ap (λ es. sum_by (λ (e : ℕ × ℕ). under end e.0 e.1) es) put ∙ grown ∙ ap (λ n. n + cond (ltb k end) 1 0) (was.below end) ∙ sym pushed;
      all =
          let sum : sum_by (λ (e : ℕ × ℕ). e.1) (insert_entry nat_cmp es k v) ≡ length times + 1 = omega arith in
          ap (λ es. sum_by (λ (e : ℕ × ℕ). e.1) es) put ∙ sum ∙ sym long;
      most = most ∙ ap (λ n. max n t) was.most ∙ sym (greatest_more times t);
    }
