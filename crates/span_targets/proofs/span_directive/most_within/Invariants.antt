use Rattle.std.proofs.Common.{◌≡◌, drop}
use Rattle.span_targets.proofs.span_directive.most_within.Given as goal
use Rattle.span_targets.specs.EnvFilter.{most_within}

abbrev pub invariant-loop-span : goal.invariant-loop-span
invariant-loop-span l = most_within l.most (drop l.span-index l.spans) ≡ most_within l.fn.most l.spans
