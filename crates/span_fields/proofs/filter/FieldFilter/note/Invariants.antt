use Rattle.std.proofs.Common.{◌≡◌, ◌++◌, take}
use Rattle.span_fields.proofs.filter.FieldFilter.note.Given as goal
use Rattle.span_fields.specs.Filter.{met}

abbrev pub invariant-loop-directive : goal.invariant-loop-directive
invariant-loop-directive l =
    (l.within.items ≡ l.initial.within.items ++ met (take l.directive-index l.directive-items) l.span l.meta l.values)
    × (l.failed ≡ l.initial.failed)
