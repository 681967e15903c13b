use Rattle.std.proofs.Common.{◌≡◌, ◌+◌, ◌≤◌, length, min}
use Rattle.std.below.core.specs.declared.int.u64.TheConstants.{MAX}
use Rattle.span_registry.specs.References.{to_give}
use Rattle.span_examples.proofs.depth.Given as goal

abbrev pub invariant-loop-above : goal.invariant-loop-above
invariant-loop-above l =
    (l.depth ≤ MAX) × (min (l.depth + length (to_give (λ s. s) l._above-iterator)) MAX ≡ min (length (to_give (λ s. s) l.initial._above-iterator)) MAX)
