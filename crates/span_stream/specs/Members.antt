-- The values that spans were given, as members of objects in JSON.
use Rattle.std.specs.Prelude.{◌≤◌, ℕ, ◌==◌, if◌then◌else◌}
use Rattle.std.specs.BTreeMap as tree
use Rattle.std.specs.Option.{option_map_or}
use Rattle.std.specs.Ordering.{nat_cmp}
use Rattle.serde_json.specs.Data.{Members as MembersOf, members_depth, no_members}
use Rattle.span_stream.specs.Held.{members_held}
use Rattle.span_stream.specs.declared.members.Members.{Members}

-- by a span's number the values that the span was given
abbrev pub SpanMembers : Type 0
SpanMembers = ℕ → MembersOf

-- no span was given a value
abbrev pub nothing_kept : SpanMembers
nothing_kept n = no_members

-- no value that a span was given is an object or a list
abbrev pub AreFlat : SpanMembers → Type 0
AreFlat kept = (n : ℕ) → members_depth (kept n) ≤ 0

-- what is kept, with these values of one span
abbrev pub with_members : ℕ → MembersOf → SpanMembers → SpanMembers
with_members x ms kept n = if x == n then ms else kept n

-- the values that are kept of spans
abbrev pub members_kept : Members → SpanMembers
members_kept x n =
    option_map_or members_held (tree.get nat_cmp x.kept n) no_members
