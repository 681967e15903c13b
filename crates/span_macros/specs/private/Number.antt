-- The hasher by which callsites are numbered.
use Rattle.std.specs.Prelude.{ℕ}
use Rattle.std.specs.declared.hash.FoldHasher.{FoldHasher}

-- the hasher in this state
abbrev pub hasher_at : ℕ → FoldHasher
hasher_at state = record { state = state }
