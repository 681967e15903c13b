-- What a seeded hasher begins with.
use Rattle.std.specs.declared.hash.FoldHasher.{FoldHasher}
use Rattle.span_store.specs.declared.seeded_state.SeededState.{SeededState}

-- the hasher that each number is hashed by, before the number is
abbrev pub initial_hasher : SeededState → FoldHasher
initial_hasher s = s.initial
