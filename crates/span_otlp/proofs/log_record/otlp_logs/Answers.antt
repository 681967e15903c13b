use Rattle.span_otlp.proofs.Batches.{on_ok}
use Rattle.span_otlp.specs.LogRecord.{records_of}
use Rattle.span_otlp.proofs.log_record.otlp_logs.Goals as goal

pub returns : goal.returns
returns c =
    let all = records_of c.args.trace.now c.args.table c.args.points.now in
    record {
      mean = on_ok c.finish.result c.finish.ensures (λ lines h. (h all c.in_ok-batches.ensures).batches);
      compact = on_ok c.finish.result c.finish.ensures (λ lines h. (h all c.in_ok-batches.ensures).compact);
    }
