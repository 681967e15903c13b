use Rattle.std.proofs.Common.{◌≡◌}
use Rattle.span_bench.proofs.rounds.scope.Given as goal

abbrev pub invariant-loop : goal.invariant-loop
invariant-loop g l = l.done ≡ l.counter
