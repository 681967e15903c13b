use Rattle.std.proofs.Common.{◌≡◌, vec_len}
use Rattle.serde_json.specs.View.{members_view}
use Rattle.span_stream.specs.Held.{with_waiting}
use Rattle.span_stream.proofs.held.move_all.Given as goal

abbrev pub decreases-loop-one : goal.decreases-loop-one
decreases-loop-one l = vec_len l.waiting

-- what is moved and what waits make the whole
abbrev pub invariant-loop-one : goal.invariant-loop-one
invariant-loop-one l =
    with_waiting l.waiting.items (members_view l.settled.entries) ≡ with_waiting l.fn.waiting.items (members_view l.fn.settled.entries)
