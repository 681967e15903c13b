-- Names of lanes.
use Rattle.std.specs.Prelude.{ℕ, List, [], ◌∷◌, decimal, string_bytes}
use Rattle.std.specs.BTreeMap as tree
use Rattle.std.specs.Option.{option_map_or}
use Rattle.std.specs.Ordering.{nat_cmp}
use Rattle.span_fmt.specs.Quote.{quoted}
use Rattle.span_fmt.specs.declared.lane.LaneNames.{LaneNames}

-- by a lane's number, its name, and an empty text where it has none
abbrev pub Naming : Type 0
Naming = ℕ → List ℕ

-- the names that a `LaneNames` has of lanes
abbrev pub names_in : LaneNames → Naming
names_in x n = option_map_or string_bytes (tree.get nat_cmp x.names n) []

-- a name in quotes, or this number where there is none
abbrev pub name_or_number : List ℕ → ℕ → List ℕ
name_or_number [] n = decimal n
name_or_number (b ∷ bytes) n = quoted (b ∷ bytes)

-- a lane by its name in quotes, or by its number where it has none
abbrev pub lane_text : Naming → ℕ → List ℕ
lane_text names lane = name_or_number (names lane) lane

-- a name, if there is one
abbrev pub name_told : List ℕ → List (List ℕ)
name_told [] = []
name_told (b ∷ bytes) = (b ∷ bytes) ∷ []
