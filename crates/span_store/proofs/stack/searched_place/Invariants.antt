use Rattle.std.proofs.Common.{◌≡◌, drop, false}
use Rattle.span_core.specs.Span.{number_of}
use Rattle.span_store.specs.private.Marks.{ids}
use Rattle.span_store.specs.LaneStack.{stands}
use Rattle.span_store.proofs.stack.searched_place.Given as goal

abbrev pub invariant-loop-i : goal.invariant-loop-i
invariant-loop-i l = stands (number_of l.id) (ids (drop l.i l.entries)) ≡ false
