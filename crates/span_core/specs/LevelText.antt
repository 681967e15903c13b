-- The texts that levels and filters by level are read from.
use Rattle.std.specs.Prelude.{◌≡◌, ℕ, List, [], ◌⊎◌, codes, map, Option, None, Some, Result, MatchResult}
use Rattle.std.specs.Char.{to_ascii_lowercase}
use Rattle.std.specs.Str.Parse.{IsNumeral, digits_value, without_leading_plus}
use Rattle.span_core.specs.Level.{filter_number, level_number, level_text}
use Rattle.span_core.specs.declared.level.Level.{Level}
use Rattle.span_core.specs.declared.level.LevelFilter.{LevelFilter}

-- the text is a numeral of this number: digits, behind a plus or not
abbrev pub IsNumeralOf : ℕ → List ℕ → Type 0
IsNumeralOf number text =
    IsNumeral 10 (without_leading_plus text)
    × (digits_value 10 (without_leading_plus text) ≡ number)

-- the text is this name, in any case
abbrev pub IsNameInAnyCase : List ℕ → List ℕ → Type 0
IsNameInAnyCase name text = map to_ascii_lowercase text ≡ map to_ascii_lowercase name

-- the text is the level's name or number
abbrev pub IsLevelText : List ℕ → Level → Type 0
IsLevelText text level =
    IsNumeralOf (level_number level) text ⊎ IsNameInAnyCase (level_text level) text

-- the text is `off` or 0, where no level passes, and else the name or the number of the most
-- verbose level that does
abbrev pub IsFilterLevelText : List ℕ → Option Level → Type 0
IsFilterLevelText text None = IsNumeralOf 0 text ⊎ IsNameInAnyCase (codes "off") text
IsFilterLevelText text (Some level) = IsLevelText text level

-- the text is of the filter; the empty one is of the filter that passes errors alone
abbrev pub IsFilterText : List ℕ → LevelFilter → Type 0
IsFilterText text filter =
    IsFilterLevelText text filter.0 ⊎ ((text ≡ []) × (filter_number filter ≡ 1))

-- a value that the text stands for was read, or there is none
abbrev pub Reads : {X E : Type 0} → (X → Type 0) → Result X E → Type 0
Reads {X} stands r = MatchResult r stands (λ e. (x : X) → ¬ stands x)
