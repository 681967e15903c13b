use Rattle.std.proofs.Common.{◌∙◌, ap, arith, sum_by}
use Rattle.std.proofs.lemmas.List.{take_all}
use Rattle.span_core.specs.Span.{number_of}
use Rattle.span_otlp.proofs.Lost.{capped_more}
use Rattle.span_otlp.specs.Dropped.{lost_at}
use Rattle.span_times.specs.Measure.{capped}
use Rattle.span_otlp.proofs.dropped.dropped_by.Goals as goal

pub loop-point-preserved : goal.loop-point-preserved
loop-point-preserved c =
    c.saturating_add-dropped.ensures
    ∙ capped_more (lost_at c.args.table (number_of c.args.id)) c.args.points.now
    c.loop-point.point-index _ c.loop-point.dropped c.lost_at.result (omega arith) c.loop-point.invariant c.lost_at.ensures
