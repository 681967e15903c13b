use Rattle.std.proofs.Common.{◌≡◌}
use Rattle.span_memory.proofs.shared.prepare.Given as goal

abbrev pub invariant-loop-request : goal.invariant-loop-request
invariant-loop-request g l = l.worker.calls ≡ l.request-index
