use Rattle.std.proofs.Common.{◌≡◌}
use Rattle.span_bench.proofs.traced_rounds.span.Given as goal

abbrev pub invariant-loop : goal.invariant-loop
invariant-loop g l = l.done ≡ l.counter
