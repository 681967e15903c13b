use Rattle.std.proofs.Common.{◌≡◌, vec_len}
use Rattle.span_bench.proofs.site.table.Given as goal

abbrev pub invariant-loop-number : goal.invariant-loop-number
invariant-loop-number l = vec_len l.sites ≡ l.number
