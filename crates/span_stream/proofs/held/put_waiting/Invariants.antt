use Rattle.std.proofs.Common.{◌≡◌, take}
use Rattle.serde_json.specs.View.{members_view}
use Rattle.span_stream.specs.Held.{with_waiting}
use Rattle.span_stream.proofs.held.put_waiting.Given as goal

-- what is put and what is left make the whole
abbrev pub invariant-loop-place : goal.invariant-loop-place
invariant-loop-place l =
    with_waiting (take l.place l.waiting) (members_view l.members.entries) ≡ with_waiting l.fn.waiting (members_view l.fn.members.entries)
