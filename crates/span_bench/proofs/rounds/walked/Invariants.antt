use Rattle.std.proofs.Common.{length}
use Rattle.std.below.core.specs.declared.int.u32.TheConstants.{MAX}
use Rattle.span_registry.specs.References.{to_give}
use Rattle.span_bench.proofs.Counted.{Counts}
use Rattle.span_bench.proofs.rounds.walked.Given as goal

abbrev pub invariant-loop-each : goal.invariant-loop-each
invariant-loop-each g l =
    let registry = g.S.LookupSpan.registry in
    Counts l.count (length (to_give registry l._each-iterator)) (length (to_give registry l.initial._each-iterator)) MAX
