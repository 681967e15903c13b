-- What is written of a filter is read again.
use Rattle.std.specs.Prelude.{◌≡◌, ◌≤◌, ℕ, List, [], ◌∷◌, length, Bool, true, not, ◌&&◌, Ok, None}
use Rattle.std.specs.List.{list_all}
use Rattle.span_core.specs.declared.level.TheConstants.LevelFilter.{OFF}
use Rattle.span_targets.specs.Directive.{target_of}
use Rattle.span_targets.specs.Names.{Names, naming, nothing}
use Rattle.span_targets.specs.Targets.{directives_of, names_of, pieces_of, text_of}
use Rattle.span_targets.specs.Text.{has, reading}
use Rattle.span_targets.specs.declared.targets.Targets.{Targets}
use Rattle.span_targets.specs.declared.parse.TheConstants.{MAX_DIRECTIVES}

-- whether a target can be written: it has no comma, `=` or `[`
abbrev pub is_plain : List ℕ → Bool
is_plain t = not (has 44 t) && (not (has 61 t) && not (has 91 t))

-- a filter can be written: each target can, and there are no more directives than are read
pub record CanBeWritten (f : Targets) : Type 0 where
  pub plain : list_all (λ d. is_plain (target_of d)) (directives_of f) ≡ true
  pub few : length (pieces_of f) ≤ MAX_DIRECTIVES

-- the names, but where nothing is written, `off` by default
abbrev pub or_off : List (List ℕ) → Names → Names
or_off [] m = naming None OFF nothing
or_off (p ∷ ps) m = m

-- what a filter is written as names what it does; of a filter without directives and default, `off`
-- by default
abbrev pub IsReadBack : Targets → Type 0
IsReadBack f = reading (text_of f) ≡ Ok (or_off (pieces_of f) (names_of f))
