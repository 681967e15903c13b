use Rattle.std.proofs.Common.{◌≡◌, [], drop}
use Rattle.span_core.specs.Span.{number_of}
use Rattle.span_times.specs.Measure.{since_opening}
use Rattle.span_times.proofs.measure.since_opening.Given as goal

-- none of those behind opens it
abbrev pub invariant-loop-start : goal.invariant-loop-start
invariant-loop-start l = since_opening (number_of l.id) (drop l.start l.points) ≡ []
