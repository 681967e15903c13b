use Rattle.std.proofs.Common.{arith}
use Rattle.span_core.specs.Span.{number_of}
use Rattle.span_times.specs.Measure.{is_gap}
use Rattle.span_times.proofs.Sums.{spent_all}
use Rattle.span_times.proofs.measure.time_of.Goals as goal

pub returns : goal.returns
returns c =
    let so_far = c.loop-point.invariant in
    spent_all c.args.points.now
    c.loop-point.point-index (is_gap c.args.part) (number_of c.args.id) c.loop-point.last c.loop-point.time _ (omega arith) so_far.fits so_far.whole
