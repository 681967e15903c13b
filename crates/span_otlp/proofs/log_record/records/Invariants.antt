use Rattle.std.proofs.Common.{take}
use Rattle.span_otlp.specs.LogRecord.{records_of}
use Rattle.span_otlp.specs.private.Sent.{AreSent}
use Rattle.span_otlp.proofs.log_record.records.Given as goal

-- the records of the points so far are sent, or wait
abbrev pub invariant-loop-point : goal.invariant-loop-point
invariant-loop-point l = AreSent l.plan (records_of l.plan.trace.now l.table (take l.point-index l.points)) l.batches
