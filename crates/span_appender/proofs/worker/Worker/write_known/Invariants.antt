use Rattle.std.proofs.Common.{◌≡◌, ◌+◌, ◌++◌, length}
use Rattle.rtrb.specs.Ring.{known_items, received}
use Rattle.span_appender.specs.Worker.{HasWritten}
use Rattle.span_appender.specs.declared.worker.Worker.{Worker}
use Rattle.span_appender.proofs.worker.Worker.write_known.Given as goal

abbrev pub invariant-loop : goal.invariant-loop
invariant-loop g l =
    record {
      left : l.counter + length (known_items l.self.queue) ≡ length (known_items l.initial.self.queue);
      all : received l.self.queue ++ known_items l.self.queue ≡ received l.initial.self.queue ++ known_items l.initial.self.queue;
      kept : (first : Worker _) → HasWritten g.W.Write.contents first l.initial.self → HasWritten g.W.Write.contents first l.self;
    }
