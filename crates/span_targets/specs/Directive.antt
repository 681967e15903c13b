-- Directives: what they name together, and their texts.
use Rattle.std.specs.Prelude.{ℕ, List, [], ◌∷◌, ◌++◌, map, codes, bytes_eq, Bool, string_bytes, if◌then◌else◌}
use Rattle.std.specs.Prelude.{Option, None, Some}
use Rattle.std.specs.Char.{to_ascii_lowercase}
use Rattle.std.specs.Option.{option_map_or}
use Rattle.span_core.specs.Level.{greater, level_text}
use Rattle.span_core.specs.declared.level.LevelFilter.{LevelFilter}
use Rattle.span_targets.specs.Names.{Names}
use Rattle.span_targets.specs.declared.directive.Directive.{Directive}

-- the target of a directive, as its bytes
abbrev pub target_of : Directive → List ℕ
target_of d = string_bytes d.target

-- the levels that pass by a directive
abbrev pub level_by : Directive → LevelFilter
level_by d = d.level

-- whether the directive has this target
abbrev pub has_target : List ℕ → Directive → Bool
has_target t d = bytes_eq (target_of d) t

-- the word for what passes: the name of the most verbose level in small letters, or `off`
abbrev pub word_of : LevelFilter → List ℕ
word_of l = option_map_or (λ level. map to_ascii_lowercase (level_text level)) l.0 (codes "off")

-- the text of a directive: its target, `=` and the word for its levels
abbrev pub directive_text : Directive → List ℕ
directive_text d = target_of d ++ (61 ∷ word_of (level_by d))

-- the levels that pass by the directive with this target
abbrev pub listed : List Directive → List ℕ → Option LevelFilter
listed [] t = None
listed (d ∷ ds) t = if has_target t d then Some (level_by d) else listed ds t

-- what these directives and this default name
abbrev pub named_in : List Directive → Option LevelFilter → Names
named_in ds l (Some t) = listed ds t
named_in ds l None = l

-- the most that passes by one of these directives, or by what is at hand
abbrev pub most_of : LevelFilter → List Directive → LevelFilter
most_of l [] = l
most_of l (d ∷ ds) = most_of (greater l (level_by d)) ds
