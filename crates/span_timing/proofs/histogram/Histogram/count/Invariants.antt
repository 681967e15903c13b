use Rattle.std.proofs.Common.{◌≡◌, map}
use Rattle.std.specs.Map.Iter.{deref_pair}
use Rattle.span_timing.proofs.Ranks.{total}
use Rattle.span_timing.proofs.histogram.Histogram.count.Given as goal
use Rattle.span_times.specs.Measure.{capped}

-- the entries so far are counted
abbrev pub invariant-loop-times : goal.invariant-loop-times
invariant-loop-times l = l.count ≡ capped (total (map deref_pair l.yielded))
