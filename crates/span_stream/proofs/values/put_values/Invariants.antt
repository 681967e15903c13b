use Rattle.std.proofs.Common.{◌≡◌, take}
use Rattle.serde_json.specs.View.{members_view}
use Rattle.span_stream.specs.Values.{with_values}
use Rattle.span_stream.proofs.values.put_values.Given as goal

-- the fields so far
abbrev pub invariant-loop-field : goal.invariant-loop-field
invariant-loop-field l = members_view l.members.entries ≡ with_values (take l.field-index l.values) (members_view l.fn.members.entries)
