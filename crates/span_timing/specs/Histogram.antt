-- How times are spread.
use Rattle.std.specs.Prelude.{◌≡◌, ◌≤◌, ◌<◌, ◌+◌, ◌-◌, ◌*◌, ◌/◌, ◌%◌, ◌^◌, ℕ, Bool, if◌then◌else◌, count_by, find, length, List, [], ◌∷◌, max, min, nat_le, nat_lt, sum_by}
use Rattle.std.specs.BTreeMap.{keys}
use Rattle.std.specs.Int.{leading_zeros, w64}
use Rattle.std.specs.Option.{option_map_or}
use Rattle.span_times.specs.Measure.{capped}
use Rattle.span_timing.specs.declared.histogram.Histogram.{Histogram}

-- how wide the bucket of a time is: a sixteenth of the greatest power of two up to the time, and 1
-- below 16
abbrev pub bucket_width : ℕ → ℕ
bucket_width t = 2 ^ (59 - leading_zeros w64 (max t 16))

-- where the bucket of a time ends: it begins at a multiple of the width
abbrev pub bucket_end : ℕ → ℕ
bucket_end t = t - t % bucket_width t + (bucket_width t - 1)

-- the ends of buckets, in their order, and how many times are counted in each
abbrev pub counts_in : Histogram → List (ℕ × ℕ)
counts_in h = h.counts.entries

-- the greatest time
abbrev pub most_in : Histogram → ℕ
most_in h = h.most

-- how many times are counted in all
abbrev pub counted : Histogram → ℕ
counted h = sum_by (λ e. e.1) (counts_in h)

-- how many times are counted in the buckets that end before this
abbrev pub counted_below : ℕ → Histogram → ℕ
counted_below end h = sum_by (λ e. if nat_lt e.0 end then e.1 else 0) (counts_in h)

-- the greatest of times, and 0 where there is none
abbrev pub greatest : List ℕ → ℕ
greatest [] = 0
greatest (t ∷ times) = max t (greatest times)

-- whether so many parts of the whole are counted in the buckets up to the one that ends here
abbrev pub holds_parts : ℕ → ℕ → Histogram → ℕ → Bool
holds_parts parts whole h end =
    nat_le (capped (counted h) * parts) (capped (counted_below (end + 1) h) * whole)

-- up to where so many parts of the whole are counted: where the first bucket ends that completes
-- them, or the greatest time where that is less
abbrev pub quantile_in : ℕ → ℕ → Histogram → ℕ
quantile_in parts whole h =
    option_map_or (min (most_in h)) (find (holds_parts parts whole h) (keys h.counts)) (most_in h)

-- each of these times is counted once, in its bucket, and the greatest is known
pub record Counts (times : List ℕ) (h : Histogram) : Type 0 where
  pub below : (end : ℕ)
      → counted_below end h ≡ count_by (λ t. nat_lt (bucket_end t) end) times
  pub all : counted h ≡ length times
  pub most : most_in h ≡ greatest times

-- the histogram of these times, as long as they are fewer than 2^64
abbrev pub IsOf : List ℕ → Histogram → Type 0
IsOf times h = length times < 2 ^ 64 → Counts times h

-- So many parts of the whole of the times are not above the quantile, and fewer are so much below
-- it that a sixteenth more is still below. So it is at least the exact quantile, and at most a
-- sixteenth above that.
pub record IsQuantile (parts whole : ℕ) (times : List ℕ) (quantile : ℕ) : Type 0 where
  pub enough : parts * length times ≤ whole * count_by (λ t. nat_le t quantile) times
  pub close : whole * count_by (λ t. nat_lt (t + t / 16) quantile) times < parts * length times

-- the second histogram has the counts of the first, and the greatest time
pub record IsSame (h copy : Histogram) : Type 0 where
  pub counts : counts_in copy ≡ counts_in h
  pub most : most_in copy ≡ most_in h
