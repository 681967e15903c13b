-- Forms: how the layers of a stack stand together, and what each answers. A form names no type of
-- layer, and no code.
use Rattle.std.specs.Prelude.{⊤, ℕ, Bool, true, false, ◌&&◌, ◌||◌, IsTrue, Option}
use Rattle.span_registry.specs.Behaviour.{Behaviour}

-- how two parts stand together: a layer on a subscriber, two layers in a pair, or the first member
-- of a list and the rest
pub data Arrangement : Type 0 where
  OnSubscriber : Arrangement
  InPair : Arrangement
  InList : Arrangement

-- what is neither leaf nor filter nor made of parts: the registry, an absent layer, the end of a
-- list
pub data TerminalKind : Type 0 where
  Base : TerminalKind
  Absent : TerminalKind
  End : TerminalKind

-- a leaf, by whether its hooks write extensions alone, and what it answers; a filter round a form,
-- by its number, if it has one, and what it answers; an outer part, or the first member of a list,
-- and an inner one, or the rest; or none of these
pub data Form : Type 0 where
  Leaf : Bool → Behaviour → Form
  Filtered : Option ℕ → Behaviour → Form → Form
  Parts : Arrangement → Form → Form → Form
  Terminal : TerminalKind → Form

-- whether a form is the registry
abbrev pub is_base : Form → Bool
is_base (Terminal Base) = true
is_base other = false

-- whether a form is the end of a list
abbrev pub is_end : Form → Bool
is_end (Terminal End) = true
is_end other = false

-- whether two parts are marked: on a subscriber where either is, in a pair where both are, in a
-- list where all members are
abbrev pub both_marked : Arrangement → Bool → Bool → Bool → Bool
both_marked OnSubscriber first last second = first || second
both_marked InPair first last second = first && second
both_marked InList first last second = first && (last || second)

-- whether a form is marked: a layer under a filter, or made of such, as its parts stand together
abbrev pub is_marked : Form → Bool
is_marked (Filtered n a f) = true
is_marked (Parts k o i) = both_marked k (is_marked o) (is_end i) (is_marked i)
is_marked other = false

-- whether a layer in a form is absent
abbrev pub is_absent : Form → Bool
is_absent (Filtered n a f) = is_absent f
is_absent (Parts k o i) = is_absent o || is_absent i
is_absent (Terminal Absent) = true
is_absent other = false

-- no hook of a leaf in a form does more than write extensions
abbrev pub WritesOnlyExtensions : Form → Type 0
WritesOnlyExtensions (Leaf still a) = IsTrue still
WritesOnlyExtensions (Filtered n a f) = WritesOnlyExtensions f
WritesOnlyExtensions (Parts k o i) = WritesOnlyExtensions o × WritesOnlyExtensions i
WritesOnlyExtensions (Terminal v) = ⊤
