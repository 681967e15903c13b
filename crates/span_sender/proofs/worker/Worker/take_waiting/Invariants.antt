use Rattle.span_sender.specs.Worker.{HasSent}
use Rattle.span_sender.specs.declared.worker.Worker.{Worker}
use Rattle.span_sender.proofs.worker.Worker.take_waiting.Given as goal

abbrev pub invariant-loop : goal.invariant-loop
invariant-loop g l =
    (first : Worker _ _) → HasSent g.P.Poster.posted first l.fn.self → HasSent g.P.Poster.posted first l.self
