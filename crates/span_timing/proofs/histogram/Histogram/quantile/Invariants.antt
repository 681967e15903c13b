use Rattle.std.proofs.Common.{◌≡◌, ◌*◌, ◌<◌, None, map}
use Rattle.std.specs.List.{find}
use Rattle.std.specs.Map.{keys_of}
use Rattle.std.specs.Map.Iter.{deref_pair}
use Rattle.span_timing.proofs.Ranks.{total}
use Rattle.span_timing.proofs.histogram.Histogram.quantile.Given as goal
use Rattle.span_timing.specs.Histogram.{holds_parts}
use Rattle.span_times.specs.Measure.{capped}

-- the entries so far are counted, and are fewer than what is wanted, each of them
abbrev pub invariant-loop-end : goal.invariant-loop-end
invariant-loop-end l = record {
  count : l.count ≡ capped (total (map deref_pair l.yielded));
  none : find (holds_parts l.parts l.whole l.self) (keys_of (map deref_pair l.yielded)) ≡ None;
  short : 0 < l.wanted → l.count * l.whole < l.wanted;
}
