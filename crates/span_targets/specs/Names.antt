-- What a filter by targets says: which levels pass at a target.
use Rattle.std.specs.Prelude.{◌≡◌, ℕ, zero, suc, List, [], ◌∷◌, length, take, bytes_eq, if◌then◌else◌}
use Rattle.std.specs.Prelude.{Option, None, Some}
use Rattle.std.specs.Borrow.{Bor}
use Rattle.std.specs.Option.{option_or, unwrap_or}
use Rattle.span_core.specs.Level.{PassesNoMore}
use Rattle.span_core.specs.declared.level.LevelFilter.{LevelFilter}
use Rattle.span_core.specs.declared.level.TheConstants.LevelFilter.{OFF}

-- the levels that pass where a target begins with this one; under `None` the default
abbrev pub Names : Type 0
Names = Option (List ℕ) → Option LevelFilter

-- no target has levels, and there is no default
abbrev pub nothing : Names
nothing o = None

-- the same names, but for one target or the default
abbrev pub naming : Option (List ℕ) → LevelFilter → Names → Names
naming (Some t) l m (Some u) = if bytes_eq t u then Some l else m (Some u)
naming (Some t) l m None = m None
naming None l m (Some u) = m (Some u)
naming None l m None = Some l

-- the same names, but for each of these targets in turn
abbrev pub naming_each : List (Bor (List ℕ) × LevelFilter) → Names → Names
naming_each [] m = m
naming_each (x ∷ xs) m = naming_each xs (naming (Some x.0.now) x.1 m)

-- the levels of the longest text, of n bytes at most, that the target begins with and that has some
abbrev pub longest : Names → List ℕ → ℕ → Option LevelFilter
longest m t zero = m (Some [])
longest m t (suc n) = option_or (m (Some (take (suc n) t))) (longest m t n)

-- the levels that pass at a target: those of the longest text that it begins with and that has
-- levels; else the default; else none
abbrev pub level_for : Names → List ℕ → LevelFilter
level_for m t = unwrap_or (option_or (longest m t (length t)) (m None)) OFF

-- the levels are the most that passes at any target: nowhere do more pass, and somewhere just they
pub record IsMost (m : Names) (l : LevelFilter) : Type 0 where
  pub above : (t : List ℕ) → PassesNoMore (level_for m t) l
  pub attained : (t : List ℕ) × (level_for m t ≡ l)
