-- The word of a map.
use Rattle.std.specs.Prelude.{ℕ, ◌↔◌, IsBitSet, IsTrue}
use Rattle.span_core.specs.declared.filter.FilterMap.{FilterMap}
use Rattle.span_core.specs.Filters.{refuses}

-- bit n of the word is 1 exactly if filter n refuses
abbrev pub IsWord : FilterMap → ℕ → Type 0
IsWord map word = (n : ℕ) → IsBitSet word n ↔ IsTrue (refuses map n)
