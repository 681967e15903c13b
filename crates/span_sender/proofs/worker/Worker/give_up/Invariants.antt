use Rattle.std.proofs.Common.{◌≡◌, ◌+◌, ◌++◌, [], length}
use Rattle.rtrb.specs.Ring.{known_items, received}
use Rattle.span_sender.specs.Batches.{held_by}
use Rattle.span_sender.specs.Worker.{HasSent}
use Rattle.span_sender.specs.declared.worker.Worker.{Worker}
use Rattle.span_sender.proofs.worker.Worker.give_up.Given as goal

abbrev pub invariant-loop : goal.invariant-loop
invariant-loop g l =
    record {
      left : l.counter + length (known_items l.self.queue) ≡ length (known_items l.initial.self.queue);
      all : received l.self.queue ++ known_items l.self.queue ≡ received l.initial.self.queue ++ known_items l.initial.self.queue;
      empty : held_by l.self.batches ≡ [];
      kept : (first : Worker _ _) → HasSent g.P.Poster.posted first l.initial.self → HasSent g.P.Poster.posted first l.self;
    }
