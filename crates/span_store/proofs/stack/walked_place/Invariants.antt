use Rattle.std.proofs.Common.{◌≡◌, drop, false, map}
use Rattle.span_core.specs.Span.{number_of}
use Rattle.span_store.specs.LaneStack.{stands}
use Rattle.span_store.proofs.stack.walked_place.Given as goal

abbrev pub invariant-loop-i : goal.invariant-loop-i
invariant-loop-i l = stands (number_of l.id) (map number_of (drop l.i l.spans)) ≡ false
