use Rattle.std.proofs.Common.{◌≡◌, length}
use Rattle.std.specs.List.{find}
use Rattle.span_store.specs.LaneStack.{spans_to_give}
use Rattle.span_registry.specs.Context.{view_in}
use Rattle.span_registry.specs.View.{is_shown}
use Rattle.span_registry.proofs.context.first_of.Given as goal

-- none that was passed is shown
abbrev pub invariant-loop-id : goal.invariant-loop-id
invariant-loop-id g l =
    let p = is_shown (view_in g.S.LookupSpan.registry l.context).spans in
    find p (spans_to_give l.left) ≡ find p (spans_to_give l.fn.spans)

abbrev pub decreases-loop-id : goal.decreases-loop-id
decreases-loop-id g l = length (spans_to_give l.left)
