use Rattle.std.proofs.Common.{◌≡◌, sum_by, take}
use Rattle.span_core.specs.Span.{number_of}
use Rattle.span_otlp.specs.Dropped.{lost_at}
use Rattle.span_times.specs.Measure.{capped}
use Rattle.span_otlp.proofs.dropped.dropped_by.Given as goal

-- the sum so far
abbrev pub invariant-loop-point : goal.invariant-loop-point
invariant-loop-point l = l.dropped ≡ capped (sum_by (lost_at l.table (number_of l.id)) (take l.point-index l.points))
