use Rattle.std.proofs.Common.{◌≡◌, drop}
use Rattle.span_fields.proofs.directive.most_of.Given as goal
use Rattle.span_fields.specs.Directive.{most_of}

abbrev pub invariant-loop-directive : goal.invariant-loop-directive
invariant-loop-directive l = most_of l.most (drop l.directive-index l.directives) ≡ most_of l.fn.level l.directives
