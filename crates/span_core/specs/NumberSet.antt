-- Sets of filter numbers, of a private type: no public clause names a word of this file.
use Rattle.std.specs.Prelude.{◌≡◌, ℕ, Bool, false, ◌||◌, ◌==◌, zero, suc, if◌then◌else◌}
use Rattle.std.specs.Int.{bit_at}
use Rattle.span_core.specs.declared.number_set.NumberSet.{NumberSet}

-- whether the number is in the set, bit n of its word: none is from 128 on, as the word is below
-- 2 ^ 128
abbrev pub has_number : NumberSet → ℕ → Bool
has_number s n = bit_at s.bits n == 1

-- whether a number below the limit passes
unfoldable pub some_below : ℕ → (ℕ → Bool) → Bool
some_below zero p = false
some_below (suc n) p = some_below n p || p n

-- the members of a set are all put in or all taken out, and nothing else changes
abbrev pub SetsAll : (old new members : ℕ → Bool) → Bool → Type 0
SetsAll old new members held = (n : ℕ) → new n ≡ (if members n then held else old n)
