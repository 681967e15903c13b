-- Directives in the order in which they are looked at.
use Rattle.std.specs.Prelude.{ℕ, List, [], ◌∷◌, length, take, bytes_eq, Bool, true, ◌&&◌, if◌then◌else◌}
use Rattle.std.specs.Prelude.{Option, None, Some}
use Rattle.std.specs.Cmp.Lexicographic.{slice_cmp}
use Rattle.std.specs.List.{list_all}
use Rattle.std.specs.Ordering.{is_gt, nat_cmp}
use Rattle.std.specs.declared.cmp.Ordering.{Ordering}
use Rattle.span_core.specs.declared.level.LevelFilter.{LevelFilter}
use Rattle.span_targets.specs.Directive.{level_by, target_of}
use Rattle.span_targets.specs.declared.directive.Directive.{Directive}

-- whether the text begins with the directive's target
abbrev pub begins : List ℕ → Directive → Bool
begins t d = bytes_eq (target_of d) (take (length (target_of d)) t)

-- the levels that pass by the first directive whose target the text begins with
abbrev pub first_level : List Directive → List ℕ → Option LevelFilter
first_level [] t = None
first_level (d ∷ ds) t = if begins t d then Some (level_by d) else first_level ds t

-- texts by their length, and texts as long by their bytes
abbrev pub by_length : List ℕ → List ℕ → Ordering
by_length t u = slice_cmp nat_cmp (length t ∷ t) (length u ∷ u)

-- how a directive stands to one with this target: `Less` where the directive comes first
abbrev pub order_to : List ℕ → Directive → Ordering
order_to t d = by_length t (target_of d)

-- whether the first target comes before the second: it is longer, or as long and greater
abbrev pub precedes : List ℕ → List ℕ → Bool
precedes t u = is_gt (by_length t u)

-- whether each target comes before all behind it
abbrev pub is_longest_first : List (List ℕ) → Bool
is_longest_first [] = true
is_longest_first (t ∷ ts) = list_all (precedes t) ts && is_longest_first ts
