use Rattle.span_appender.specs.Worker.{HasWritten}
use Rattle.span_appender.specs.declared.worker.Worker.{Worker}
use Rattle.span_appender.proofs.worker.Worker.write_waiting.Given as goal

abbrev pub invariant-loop : goal.invariant-loop
invariant-loop g l = (first : Worker _) → HasWritten g.W.Write.contents first l.fn.self → HasWritten g.W.Write.contents first l.self
