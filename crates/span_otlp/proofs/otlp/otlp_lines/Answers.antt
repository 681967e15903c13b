use Rattle.std.proofs.Common.{map, string_bytes}
use Rattle.span_otlp.proofs.Batches.{lines_of_one, on_ok}
use Rattle.span_otlp.specs.Otlp.{spans_of}
use Rattle.span_otlp.specs.declared.batch.Signal.TheVariants.{Spans}
use Rattle.span_otlp.proofs.otlp.otlp_lines.Goals as goal

pub returns-clause-mean : goal.returns-clause-mean
returns-clause-mean c =
    on_ok c.otlp_batches.result c.otlp_batches.ensures.mean
    (λ lines h. lines_of_one Spans c.args.trace.now (spans_of c.args.trace.now c.args.table c.args.points.now) (map string_bytes lines.items) h)
