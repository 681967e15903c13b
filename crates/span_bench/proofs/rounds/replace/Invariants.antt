use Rattle.std.proofs.Common.{◌≡◌}
use Rattle.span_bench.proofs.rounds.replace.Given as goal

abbrev pub invariant-loop-round : goal.invariant-loop-round
invariant-loop-round g l = l.done ≡ l.round
