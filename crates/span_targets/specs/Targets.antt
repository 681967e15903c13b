-- What a filter by targets has, and its text.
use Rattle.std.specs.Prelude.{◌≡◌, ℕ, Bool, List, [], ◌∷◌, ◌++◌, map, take, codes}
use Rattle.std.specs.Prelude.{Option, None, Some}
use Rattle.std.specs.Borrow.{Bor}
use Rattle.std.specs.List.{join_with_byte}
use Rattle.span_core.specs.Level.{passes_level}
use Rattle.span_core.specs.Metadata.{level_of, target_of}
use Rattle.span_core.specs.declared.level.LevelFilter.{LevelFilter}
use Rattle.span_core.specs.declared.metadata.Metadata.{Metadata}
use Rattle.span_targets.specs.Directive.{directive_text, most_of, named_in, word_of}
use Rattle.span_targets.specs.Names.{Names, level_for, naming_each}
use Rattle.span_targets.specs.declared.directive.Directive.{Directive}
use Rattle.span_targets.specs.declared.targets.Targets.{Targets}

-- the directives with targets, the longest target first
abbrev pub directives_of : Targets → List Directive
directives_of f = f.directives.items

-- the default: the levels that pass where a target begins with no directive's, if they were set
abbrev pub default_of : Targets → Option LevelFilter
default_of f = f.default

-- what a filter names
abbrev pub names_of : Targets → Names
names_of f = named_in (directives_of f) (default_of f)

-- the most that passes by a directive, or at the empty target
abbrev pub most_by : Targets → LevelFilter
most_by f = most_of (level_for (names_of f) []) (directives_of f)

-- both have the same directives, in one order, and the same default
abbrev pub IsSame : Targets → Targets → Type 0
IsSame f g = (directives_of f ≡ directives_of g) × (default_of f ≡ default_of g)

-- the filter has taken some of these targets, from the first on
abbrev pub TakesSome : List (Bor (List ℕ) × LevelFilter) → Targets → Targets → Type 0
TakesSome xs f g = (n : ℕ) × (names_of g ≡ naming_each (take n xs) (names_of f))

-- the text of the default, if there is one
abbrev pub default_pieces : Option LevelFilter → List (List ℕ)
default_pieces None = []
default_pieces (Some l) = word_of l ∷ []

-- the texts of all directives, the default last
abbrev pub pieces_of : Targets → List (List ℕ)
pieces_of f = map directive_text (directives_of f) ++ default_pieces (default_of f)

-- texts of directives with commas between them; where there is none, `off`
abbrev pub joined : List (List ℕ) → List ℕ
joined [] = codes "off"
joined (p ∷ ps) = join_with_byte 44 (p ∷ ps)

-- the text of a filter
abbrev pub text_of : Targets → List ℕ
text_of f = joined (pieces_of f)

-- whether metadata pass: their level does at their target
abbrev pub wants : Targets → Metadata → Bool
wants f m = passes_level (level_for (names_of f) (target_of m)) (level_of m)
