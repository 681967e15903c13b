use Rattle.std.proofs.Common.{ap, arith, subst, sym, ◌∙◌, ◌≡◌, ◌<◌, ◌≤◌, ◌+◌, ◌-◌, ◌%◌, ◌^◌, ℕ}
use Rattle.std.specs.Int.{leading_zeros, w64}
use Rattle.span_timing.proofs.Bucket.{end_fits, narrow}
use Rattle.span_timing.specs.Histogram.{bucket_width}
use Rattle.span_timing.proofs.histogram.bucket_end.Goals as goal

pub overflow_sub-max : goal.overflow_sub-max
overflow_sub-max c =
    let P : ℕ → Type 0 = λ n. leading_zeros w64 n ≤ 59 in
    subst P (sym c.max.ensures) (narrow c.args.time (omega arith)).leading

pub overflow_add-result : goal.overflow_add-result
overflow_add-result c =
    let slim = narrow c.args.time c.ranges.time.fits in
    let P : ℕ → Type 0 = λ w. c.args.time - c.args.time % w + (w - 1) < 2 ^ 64 in
    let width : c.pow-width.result ≡ bucket_width c.args.time = c.pow-width.ensures ∙ ap (λ n. 2 ^ (59 - leading_zeros w64 n)) c.max.ensures in
    let fits = end_fits c.args.time (bucket_width c.args.time) slim.whole.0 slim.wide slim.whole.1 c.ranges.time.fits in
    record { fits = subst P (sym width) fits }
