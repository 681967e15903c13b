use Rattle.std.proofs.Common.{◌≡◌, ◌+◌, ◌<◌, ◌^◌, drop, None}
use Rattle.span_core.specs.Span.{number_of}
use Rattle.span_times.specs.Measure.{capped, is_gap, spent}
use Rattle.span_times.proofs.measure.time_of.Given as goal

-- the time so far and what the points to come add make up the whole
abbrev pub invariant-loop-point : goal.invariant-loop-point
invariant-loop-point l = record {
  fits : l.time < 2 ^ 64;
  whole : capped (l.time + spent (is_gap l.part) (number_of l.id) l.last (drop l.point-index l.points))
      ≡ capped (spent (is_gap l.part) (number_of l.id) None l.points);
}
