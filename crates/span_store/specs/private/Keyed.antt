-- How values are stored by their keys.
use Rattle.std.specs.Prelude.{◌≡◌, ℕ, zero, suc, ◌+◌, List, map, length, Option, Some, None, is_some, count_by, slice_get}
use Rattle.span_store.specs.declared.keyed.Place.{Place}
use Rattle.span_store.specs.declared.keyed.Place.TheVariants.{Vacant, Filled}

module _ {T : Type 0} where
  -- the value of a place, if it has one
  abbrev pub value_of : Place T → Option T
  value_of (Vacant _) = None
  value_of (Filled value) = Some value

  -- from this key on, so many vacant places each name the next, and the last names the end of the
  -- places
  abbrev pub IsVacantList : List (Place T) → ℕ → ℕ → Type 0
  IsVacantList ps zero key = key ≡ length ps
  IsVacantList ps (suc count) key =
      (next : ℕ) × (slice_get ps key ≡ Some (Vacant next)) × IsVacantList ps count next

  -- `len` counts the values, and the list from `next` on has every vacant place
  pub record IsLinked (ps : List (Place T)) (len next : ℕ) : Type 0 where
    pub counted : len ≡ count_by is_some (map value_of ps)
    pub vacant : ℕ
    pub total : len + vacant ≡ length ps
    pub linked : IsVacantList ps vacant next
