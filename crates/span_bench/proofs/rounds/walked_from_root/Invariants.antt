use Rattle.std.proofs.Common.{length}
use Rattle.std.below.core.specs.declared.int.u32.TheConstants.{MAX}
use Rattle.span_registry.specs.References.{to_give_from_root}
use Rattle.span_bench.proofs.Counted.{Counts}
use Rattle.span_bench.proofs.rounds.walked_from_root.Given as goal

abbrev pub invariant-loop-each : goal.invariant-loop-each
invariant-loop-each g l =
    Counts l.count (length (to_give_from_root l._each-iterator)) (length (to_give_from_root l.initial._each-iterator)) MAX
