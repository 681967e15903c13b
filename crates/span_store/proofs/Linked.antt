-- How each change of the places keeps the count and the list of vacant ones.
use Rattle.std.proofs.Common.{◌≡◌, ◌≢◌, ◌⊎◌, ℕ, zero, suc, ◌+◌, ◌-◌, ◌<◌, ◌≤◌, List, [], ◌∷◌, ◌++◌, map, length, get_or, set, Some, None, is_some, IsSome}
use Rattle.std.proofs.Common.{count_by, cond, slice_get, refl, sym, ap, subst, ◌∙◌, inl, inr, arith, length-set, true≢false}
use Rattle.std.proofs.lemmas.List.{map-set, map_push, length-map, length_push, get_or-map, get_or-set_same, get_or-set_other, get_or_past}
use Rattle.std.proofs.lemmas.List.Sums.{sum_by-set, sum_by_push}
use Rattle.std.proofs.lemmas.Option.{slice_get_within, slice_get-get_or, slice_get_read, get_or_from_slice_get}
use Rattle.span_store.specs.private.Keyed.{value_of, IsVacantList, IsLinked}
use Rattle.span_store.specs.declared.keyed.Place.{Place}
use Rattle.span_store.specs.declared.keyed.Place.TheVariants.{Vacant, Filled}

module _ {T : Type 0} where
  -- a key starts one list of vacant places at most
  pub IsVacantList-count_unique : (ps : List (Place T)) (m n key : ℕ) → IsVacantList ps m key → IsVacantList ps n key → m ≡ n
  IsVacantList-count_unique ps zero zero key p q = refl
  IsVacantList-count_unique ps zero (suc n) key p q = absurd (omega (arith, slice_get_within ps key _ q.1))
  IsVacantList-count_unique ps (suc m) zero key p q = absurd (omega (arith, slice_get_within ps key _ p.1))
  IsVacantList-count_unique ps (suc m) (suc n) key p q =
      let first = p.1 in
      let second = q.1 in
      let same : q.0 ≡ p.0 = cc in
      ap suc (IsVacantList-count_unique ps m n p.0 p.2 (subst (IsVacantList ps n) same q.2))

  -- a write at a key that is not on the list keeps the list
  pub IsVacantList-set : (ps : List (Place T)) (key : ℕ) (e : Place T) (n from : ℕ)
      → ((m : ℕ) → m < n → IsVacantList ps (suc m) key → ⊥) → IsVacantList ps n from → IsVacantList (set ps key e) n from
  IsVacantList-set ps key e zero from off p = p ∙ sym (length-set ps key e)
  IsVacantList-set ps key e (suc n) from off p =
      let other : from ≢ key = λ same. off n (omega arith) (subst (IsVacantList ps (suc n)) same p) in
      let within = slice_get_within ps from _ p.1 in
      let kept : slice_get (set ps key e) from ≡ Some (Vacant p.0) =
      slice_get-get_or (set ps key e) from e (omega (arith, length-set ps key e))
      ∙ ap Some (get_or-set_other ps key from e e other ∙ get_or_from_slice_get ps from _ e p.1) in
      (p.0, kept, IsVacantList-set ps key e n p.0 (λ m below. off m (omega arith)) p.2)

  -- a filled place is on no list of vacant places
  pub filled_is_off_list : (ps : List (Place T)) (key : ℕ) (value : T) → slice_get ps key ≡ Some (Filled value) → (m : ℕ) → IsVacantList ps (suc m) key → ⊥
  filled_is_off_list ps key value found m p = let listed = p.1 in cc

  -- the count of values after a write
  pub count-set : (ps : List (Place T)) (key : ℕ) (old new : Place T) → slice_get ps key ≡ Some old → count_by is_some (map value_of (set ps key new))
      + cond (is_some (value_of old)) 1 0 ≡ count_by is_some (map value_of ps) + cond (is_some (value_of new)) 1 0
  count-set ps key old new found =
      let within = slice_get_within ps key old found in
      let read : get_or (map value_of ps) key None ≡ value_of old =
      get_or-map value_of ps key old None within ∙ ap value_of (get_or_from_slice_get ps key old old found) in
      let counted = sum_by-set (λ o. cond (is_some o) 1 0) (map value_of ps) key (value_of new) None (omega (arith, length-map ps value_of)) in
      rw (map-set value_of ps key new, ← read) counted

  -- a key that finds a value is a filled place
  pub filled_at : (ps : List (Place T)) (key : ℕ) → IsSome (get_or (map value_of ps) key None) → (value : T) × (slice_get ps key ≡ Some (Filled value))
  filled_at ps key present =
      let inside : key < length (map value_of ps) = grind (arith, get_or_past) in
      let within : key < length ps = omega (arith, length-map ps value_of) in
      by_place (get_or ps key (Vacant 0)) (slice_get-get_or ps key (Vacant 0) within) (subst IsSome (get_or-map value_of ps key (Vacant 0) None within) present)
    where
      by_place : (e : Place T) → slice_get ps key ≡ Some e → IsSome (value_of e) → (value : T) × (slice_get ps key ≡ Some (Filled value))
      by_place (Vacant _) found some = absurd (true≢false (sym some))
      by_place (Filled value) found some = (value, found)

  -- the next key is the end of full places, or a vacant place
  pub next_cases : (ps : List (Place T)) (len next : ℕ)
      → IsLinked ps len next → ((next ≡ length ps) × (len ≡ length ps)) ⊎ ((after : ℕ) × (slice_get ps next ≡ Some (Vacant after)))
  next_cases ps len next sound = by_count sound.vacant sound.total sound.linked
    where
      by_count : (n : ℕ)
          → len + n ≡ length ps → IsVacantList ps n next → ((next ≡ length ps) × (len ≡ length ps)) ⊎ ((after : ℕ) × (slice_get ps next ≡ Some (Vacant after)))
      by_count zero total linked = inl (linked, omega arith)
      by_count (suc n) total linked = inr (linked.0, linked.1)

  -- the next key has no value
  pub next_is_vacant : (ps : List (Place T)) (len next : ℕ) → IsLinked ps len next → get_or (map value_of ps) next None ≡ None
  next_is_vacant ps len next sound =
      elim (next_cases ps len next sound) [
        | inl full ↦ get_or_past (map value_of ps) next None (omega (arith, length-map ps value_of))
        | inr found ↦
            get_or-map value_of ps next (Vacant 0) None (slice_get_within ps next _ found.1) ∙ ap value_of (get_or_from_slice_get ps next _ (Vacant 0) found.1)
      ]

  -- at the end of the places the list is empty
  pub full_at_end : (ps : List (Place T)) (len next : ℕ) → IsLinked ps len next → next ≡ length ps → len ≡ length ps
  full_at_end ps len next sound at_end =
      elim (next_cases ps len next sound) [
        | inl full ↦ full.1
        | inr found ↦ omega (arith, slice_get_within ps next _ found.1)
      ]

  -- before the end of the places the next key is a vacant place
  pub vacant_before_end : (ps : List (Place T)) (len next : ℕ)
      → IsLinked ps len next → next ≢ length ps → (after : ℕ) × (slice_get ps next ≡ Some (Vacant after))
  vacant_before_end ps len next sound before =
      elim (next_cases ps len next sound) [ inl full ↦ absurd (before full.0) | inr found ↦ found ]

  pub next_within : (ps : List (Place T)) (len next : ℕ) → IsLinked ps len next → next ≢ length ps → next < length ps
  next_within ps len next sound before = slice_get_within ps next _ (vacant_before_end ps len next sound before).1

  -- what a read at the next key gives is the place there
  pub read_at_next : (ps : List (Place T)) (len next : ℕ) (e : Place T)
      → IsLinked ps len next → next ≢ length ps → e ≡ get_or ps next e → slice_get ps next ≡ Some e
  read_at_next ps len next e sound before read = slice_get_read ps (length ps) next e refl (next_within ps len next sound before) read

  pub next_is_not_filled : (ps : List (Place T)) (len next : ℕ) (value : T) → IsLinked ps len next → slice_get ps next ≡ Some (Filled value) → ⊥
  next_is_not_filled ps len next value sound found =
      let vacant = (vacant_before_end ps len next sound (λ e. omega (arith, slice_get_within ps next _ found))).1 in
      cc

  pub IsLinked-push : (ps : List (Place T)) (len next : ℕ) (value : T)
      → IsLinked ps len next → next ≡ length ps → IsLinked (ps ++ Filled value ∷ []) (len + 1) (next + 1)
  IsLinked-push ps len next value sound at_end =
      let full = full_at_end ps len next sound at_end in
      let longer = length_push ps (Filled value) in
      record {
        counted =
            rw (map_push value_of ps (Filled value), sum_by_push (λ o. cond (is_some o) 1 0) (map value_of ps) (Some value)) (ap (λ n. n + 1) sound.counted);
        vacant = 0;
        total = omega arith;
        linked = omega arith;
      }

  -- the first vacant place leaves the list: the rest of the list is shorter, so it does not come back to that key
  pub IsLinked-fill : (ps : List (Place T)) (len next after : ℕ) (value : T)
      → IsLinked ps len next → slice_get ps next ≡ Some (Vacant after) → IsLinked (set ps next (Filled value)) (len + 1) after
  IsLinked-fill ps len next after value sound found = by_count sound.vacant sound.total sound.linked
    where
      by_count : (n : ℕ) → len + n ≡ length ps → IsVacantList ps n next → IsLinked (set ps next (Filled value)) (len + 1) after
      by_count zero total linked = absurd (omega (arith, slice_get_within ps next _ found))
      by_count (suc n) total linked =
          let listed = linked.1 in
          let same : linked.0 ≡ after = cc in
          let off : (m : ℕ) → m < n → IsVacantList ps (suc m) next → ⊥ =
          λ m below p. omega (arith, IsVacantList-count_unique ps (suc m) (suc n) next p linked) in
          record {
            counted = omega (arith, sound.counted, count-set ps next (Vacant after) (Filled value) found);
            vacant = n;
            total = omega (arith, length-set ps next (Filled value));
            linked = IsVacantList-set ps next (Filled value) n after off (subst (IsVacantList ps n) same linked.2);
          }

  pub IsLinked-vacate : (ps : List (Place T)) (len next key : ℕ) (value : T)
      → IsLinked ps len next → slice_get ps key ≡ Some (Filled value) → IsLinked (set ps key (Vacant next)) (len - 1) key
  IsLinked-vacate ps len next key value sound found =
      let within = slice_get_within ps key _ found in
      let count = count-set ps key (Filled value) (Vacant next) found in
      let written : slice_get (set ps key (Vacant next)) key ≡ Some (Vacant next) =
      slice_get-get_or _ key (Vacant next) (omega (arith, length-set ps key (Vacant next)))
      ∙ ap Some (get_or-set_same ps key (Vacant next) (Vacant next) within) in
      record {
        counted = omega arith;
        vacant = suc sound.vacant;
        total = omega (arith, length-set ps key (Vacant next));
        linked = (next, written, IsVacantList-set ps key (Vacant next) sound.vacant next (λ m _. filled_is_off_list ps key value found m) sound.linked);
      }

  pub IsLinked-rewrite : (ps : List (Place T)) (len next key : ℕ) (old new : T)
      → IsLinked ps len next → slice_get ps key ≡ Some (Filled old) → IsLinked (set ps key (Filled new)) len next
  IsLinked-rewrite ps len next key old new sound found =
      record {
        counted = omega (arith, count-set ps key (Filled old) (Filled new) found);
        vacant = sound.vacant;
        total = omega (arith, length-set ps key (Filled new));
        linked = IsVacantList-set ps key (Filled new) sound.vacant next (λ m _. filled_is_off_list ps key old found m) sound.linked;
      }

  -- the next key is no further than the end of the places
  pub next_at_most : (ps : List (Place T)) (len next : ℕ) → IsLinked ps len next → next ≤ length ps
  next_at_most ps len next linked =
      elim (next_cases ps len next linked) [
        | inl full ↦ omega (arith, full.0)
        | inr found ↦ omega (arith, slice_get_within ps next _ found.1)
      ]
