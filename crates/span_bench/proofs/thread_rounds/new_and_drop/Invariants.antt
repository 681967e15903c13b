use Rattle.std.proofs.Common.{◌≡◌, ◌+◌, ◌*◌}
use Rattle.span_bench.proofs.thread_rounds.new_and_drop.Given as goal

abbrev pub invariant-loop : goal.invariant-loop
invariant-loop g l = l.worker.calls ≡ l.fn.worker.calls + 2 * l.counter
