-- Levels and filters by level, by their numbers.
use Rattle.std.specs.Prelude.{◌≡◌, ◌↔◌, ℕ, List, codes, ◌<◌, ◌≤◌, ◌==◌, nat_le, Bool, IsTrue, false, if◌then◌else◌, not}
use Rattle.std.specs.Prelude.{Option, None, Some}
use Rattle.std.specs.Ordering.{nat_cmp}
use Rattle.std.specs.declared.cmp.Ordering.{Ordering}
use Rattle.std.specs.Option.{option_map_or}
use Rattle.span_core.specs.declared.level.Level.{Level}
use Rattle.span_core.specs.declared.level.LevelFilter.{LevelFilter}
use Rattle.span_core.specs.declared.level.Verbosity.{Verbosity}
use Rattle.span_core.specs.declared.level.Verbosity.TheVariants.{Error, Warn, Info, Debug, Trace}

-- the order of the levels: from 1 for errors to 5 for traces
abbrev pub verbosity_number : Verbosity → ℕ
verbosity_number Error = 1
verbosity_number Warn = 2
verbosity_number Info = 3
verbosity_number Debug = 4
verbosity_number Trace = 5

-- the names of levels
abbrev pub verbosity_text : Verbosity → List ℕ
verbosity_text Error = codes "ERROR"
verbosity_text Warn = codes "WARN"
verbosity_text Info = codes "INFO"
verbosity_text Debug = codes "DEBUG"
verbosity_text Trace = codes "TRACE"

-- the number of a level, from 1 for errors to 5 for traces
abbrev pub level_number : Level → ℕ
level_number level = verbosity_number level.0

-- the name of a level, in capitals
abbrev pub level_text : Level → List ℕ
level_text level = verbosity_text level.0

-- the number of a filter: that of the most verbose level that passes, 0 where none does
abbrev pub filter_number : LevelFilter → ℕ
filter_number filter = option_map_or level_number filter.0 0

-- two values are ordered as their numbers are
abbrev pub IsOrderBy : {A : Type 0} → (A → ℕ) → (A → A → Ordering) → Type 0
IsOrderBy {A} number cmp = (a b : A) → cmp a b ≡ nat_cmp (number a) (number b)

-- whether the level passes the filter
abbrev pub passes_level : LevelFilter → Level → Bool
passes_level filter level = nat_le (level_number level) (filter_number filter)

-- the level passes exactly if its number is at most the filter's
abbrev pub PassesByNumber : LevelFilter → Level → Type 0
PassesByNumber f level = IsTrue (passes_level f level) ↔ (level_number level ≤ filter_number f)

-- each level that passes the first filter passes the second
abbrev pub PassesNoMore : LevelFilter → LevelFilter → Type 0
PassesNoMore a b = (level : Level) → IsTrue (passes_level a level) → IsTrue (passes_level b level)

-- whether there is a hint, and the level doesn't pass it
abbrev pub is_above : Level → Option LevelFilter → Bool
is_above level None = false
is_above level (Some hint) = not (passes_level hint level)

-- the level is above a hint exactly if its number is greater than the hint's
abbrev pub IsAboveByNumber : Level → LevelFilter → Type 0
IsAboveByNumber level f = IsTrue (is_above level (Some f)) ↔ (filter_number f < level_number level)

-- the filter that passes less
abbrev pub lesser : LevelFilter → LevelFilter → LevelFilter
lesser f g = if nat_le (filter_number f) (filter_number g) then f else g

-- the filter that passes more
abbrev pub greater : LevelFilter → LevelFilter → LevelFilter
greater f g = if nat_le (filter_number f) (filter_number g) then g else f

-- the greater hint, and none where either is none
abbrev pub wider_hint : Option LevelFilter → Option LevelFilter → Option LevelFilter
wider_hint (Some f) (Some g) = Some (greater f g)
wider_hint h k = None

-- the greater hint, where none is below every other
abbrev pub greater_hint : Option LevelFilter → Option LevelFilter → Option LevelFilter
greater_hint (Some f) (Some g) = Some (greater f g)
greater_hint (Some f) None = Some f
greater_hint None h = h

-- whether a hint is one that no level passes
abbrev pub is_off : Option LevelFilter → Bool
is_off None = false
is_off (Some f) = filter_number f == 0
