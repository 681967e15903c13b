use Rattle.std.proofs.Common.{◌≡◌, []}
use Rattle.span_sender.specs.Batches.{held_by}
use Rattle.span_sender.proofs.worker.Worker.give_up_rest.Given as goal

abbrev pub invariant-loop : goal.invariant-loop
invariant-loop g l = held_by l.self.batches ≡ []
