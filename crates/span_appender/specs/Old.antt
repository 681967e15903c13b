-- Which files are removed.
use Rattle.std.specs.Prelude.{◌≡◌, ℕ, min, List, ◌++◌, length, String, string_cmp, IsPermutation, IsSorted}

-- of names, all but the greatest, of which so many are kept
pub record AreOld {Z : Type 0} (keep : ℕ) (names old : List (String Z)) : Type 0 where
  pub kept : List (String Z)
  pub all : IsPermutation names (old ++ kept)
  pub sorted : IsSorted string_cmp (old ++ kept)
  pub count : length kept ≡ min keep (length names)
