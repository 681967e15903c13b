use Rattle.std.proofs.Common.{◌≡◌}
use Rattle.rtrb.specs.Ring.{SameProducer, sent}
use Rattle.span_appender.proofs.waiting.push_waiting.Given as goal

abbrev pub invariant-loop : goal.invariant-loop
invariant-loop g l =
    (sent l.queue ≡ sent l.initial.queue) × (l.line ≡ l.initial.line) × SameProducer l.initial.queue l.queue
