-- The values that are held of one span.
use Rattle.std.specs.Prelude.{List, [], ◌∷◌, String, string_bytes}
use Rattle.std.specs.declared.alloc.Global.{Global}
use Rattle.serde_json.specs.Data.{Members, put}
use Rattle.serde_json.specs.View.{members_view, view}
use Rattle.serde_json.specs.declared.value.Value.{Value}
use Rattle.span_stream.specs.declared.held.Held.{Held}

-- these members, and named values that wait, put there from the last to the first: of two of one
-- name the first stays
abbrev pub with_waiting : List (String Global × Value) → Members → Members
with_waiting [] ms = ms
with_waiting (e ∷ es) ms = put (string_bytes e.0) (view e.1) (with_waiting es ms)

-- the values that are held of a span
abbrev pub members_held : Held → Members
members_held x = with_waiting x.waiting.items (members_view x.settled.entries)
