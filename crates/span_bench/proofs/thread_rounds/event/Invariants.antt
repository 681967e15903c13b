use Rattle.std.proofs.Common.{◌≡◌, ◌+◌}
use Rattle.span_bench.proofs.thread_rounds.event.Given as goal

abbrev pub invariant-loop : goal.invariant-loop
invariant-loop g l = l.worker.calls ≡ l.fn.worker.calls + l.counter
