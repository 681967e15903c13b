use Rattle.std.proofs.Common.{◌≡◌, vec_len}
use Rattle.span_bench.proofs.layers.listed.Given as goal

abbrev pub invariant-loop : goal.invariant-loop
invariant-loop l = vec_len l.layers ≡ l.counter
