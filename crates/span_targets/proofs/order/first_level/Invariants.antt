use Rattle.std.proofs.Common.{◌≡◌, drop}
use Rattle.span_targets.proofs.order.first_level.Given as goal
use Rattle.span_targets.specs.private.Order.{first_level}

abbrev pub invariant-loop-directive : goal.invariant-loop-directive
invariant-loop-directive l = first_level (drop l.directive-index l.directives) l.text ≡ first_level l.directives l.text
