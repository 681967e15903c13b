-- Sets of filters: what two have in common, what a mask hides, that members tell sets apart, and verdicts cut down to a set.
use Rattle.std.proofs.Common.{◌≡◌, ℕ, ◌<◌, ◌≤◌, ◌^◌, Bool, true, false, refl, sym, ap, ◌∙◌, ⊎_elim, IsTrue, Option, None, Some}
use Rattle.std.specs.Prelude.{◌&&◌, ◌||◌, ◌↔◌, is_some}
use Rattle.std.specs.Option.{option_map_or}
use Rattle.std.proofs.lemmas.Bool.{and_from, and_left, and_parts, and_right, cases_lt, false≢true}
use Rattle.span_core.specs.declared.filter.FilterId.{FilterId}
use Rattle.span_core.specs.declared.filter.FilterMap.{FilterMap}
use Rattle.span_core.specs.declared.number_set.NumberSet.{NumberSet}
use Rattle.span_core.specs.declared.number_set.TheConstants.{LIMIT}
use Rattle.span_core.specs.NumberSet.{has_number}
use Rattle.span_core.specs.Filters.{FilterSet, HasFiltersOfBoth, HaveCommon, HidesAsEither, IsEmpty, SameFilters, SameMembers, has_filter, is_hidden, meets}
use Rattle.span_core.specs.Filters.{refuses, union}
use Rattle.span_core.proofs.SameNumberSet.{same_numbers}
use Rattle.span_core.proofs.SomeBelow.{some_below-found, some_below-passes, some_below-same, some_below-or, some_below-none}
use Rattle.span_core.proofs.Words.{cut_word, cut_word-bit, cut_word-fits, is_one, is_one-below, none_past}

or_swapped : (x y : Bool) → (x || y) ≡ (y || x)
or_swapped true true = refl
or_swapped true false = refl
or_swapped false true = refl
or_swapped false false = refl

pub union-comm : (a b : FilterSet) (n : ℕ) → union a b n ≡ union b a n
union-comm a b n = or_swapped (a n) (b n)

or_regrouped : (x y z : Bool) → ((x || y) || z) ≡ (x || (y || z))
or_regrouped true y z = refl
or_regrouped false y z = refl

pub union-assoc : (a b c : FilterSet) (n : ℕ) → union (union a b) c n ≡ union a (union b c) n
union-assoc a b c n = or_regrouped (a n) (b n) (c n)

-- two sets that meet
pub meets-member : (a b : FilterSet) → IsTrue (meets a b) ↔ HaveCommon a b
meets-member a b =
    let both : FilterSet = λ n. a n && b n in (
      λ (h : IsTrue (meets a b)).
          let found = some_below-passes LIMIT both h in
          let parts = and_parts (a found.0) (b found.0) found.1.1 in
          (found.0, (found.1.0, parts.0, parts.1)),
      λ (w : HaveCommon a b). some_below-found LIMIT both w.0 w.1.0 (and_from _ _ w.1.1 w.1.2),
    )

-- sets with the same members below the limit
pub meets-same : (a b c : FilterSet) → SameMembers a b → meets a c ≡ meets b c
meets-same a b c h = some_below-same LIMIT (λ n. a n && c n) (λ n. b n && c n) (λ n l. ap (λ v. v && c n) (h n l))

and_swapped : (x y : Bool) → (x && y) ≡ (y && x)
and_swapped true true = refl
and_swapped true false = refl
and_swapped false true = refl
and_swapped false false = refl

pub meets-comm : (a b : FilterSet) → meets a b ≡ meets b a
meets-comm a b = some_below-same LIMIT (λ n. a n && b n) (λ n. b n && a n) (λ n l. and_swapped (a n) (b n))

and_over_or : (x y z : Bool) → ((x || y) && z) ≡ ((x && z) || (y && z))
and_over_or true true true = refl
and_over_or true true false = refl
and_over_or true false true = refl
and_over_or true false false = refl
and_over_or false y z = refl

pub meets-union : (a b c : FilterSet) → meets (union a b) c ≡ (meets a c || meets b c)
meets-union a b c =
    some_below-same LIMIT (λ n. (a n || b n) && c n) (λ n. (a n && c n) || (b n && c n)) (λ n l. and_over_or (a n) (b n) (c n))
    ∙ some_below-or LIMIT (λ n. a n && c n) (λ n. b n && c n)

-- a set without a filter
pub meets-none : (a b : FilterSet) → IsEmpty a → meets a b ≡ false
meets-none a b h = some_below-none LIMIT (λ n. a n && b n) (λ n l. and_left _ _ (h n))

-- a mask that is the union of two
pub is_hidden-union : (mask a b : FilterId) → HasFiltersOfBoth mask a b → HidesAsEither mask a b
is_hidden-union mask a b h verdict =
    meets-same (has_filter mask) (union (has_filter a) (has_filter b)) (refuses verdict) (λ n l. h n)
    ∙ meets-union (has_filter a) (has_filter b) (refuses verdict)

-- a mask without a filter
pub is_hidden-no_filter : (mask : FilterId) (verdict : FilterMap) → IsEmpty (has_filter mask) → is_hidden mask verdict ≡ false
is_hidden-no_filter mask verdict h = meets-none (has_filter mask) (refuses verdict) h

-- a verdict in which no filter refused
pub is_hidden-no_refusal : (mask : FilterId) (verdict : FilterMap) → IsEmpty (refuses verdict) → is_hidden mask verdict ≡ false
is_hidden-no_refusal mask verdict h = some_below-none LIMIT (λ n. has_filter mask n && refuses verdict n) (λ n l. and_right _ _ (h n))

option_below : (o : Option NumberSet) (n : ℕ) → IsTrue (option_map_or (λ s. has_number s n) o false) → n < LIMIT
option_below None n h = absurd (false≢true h)
option_below (Some s) n h = is_one-below s.bits n s.fits h

-- the numbers of an id
pub ids_below : (id : FilterId) (n : ℕ) → IsTrue (has_filter id n) → n < LIMIT
ids_below id n h = option_below id.numbers n h

-- the numbers of a map
pub maps_below : (map : FilterMap) (n : ℕ) → IsTrue (refuses map n) → n < LIMIT
maps_below map n h = is_one-below map.disabled_by.bits n map.disabled_by.fits h

same_options : (a b : Option NumberSet)
    → is_some a ≡ is_some b → ((n : ℕ) → n < LIMIT → option_map_or (λ s. has_number s n) a false ≡ option_map_or (λ s. has_number s n) b false) → a ≡ b
same_options None None e h = refl
same_options None (Some y) e h = absurd (cc)
same_options (Some x) None e h = absurd (cc)
same_options (Some x) (Some y) e h = ap (λ (s : NumberSet). let o : Option NumberSet = Some s in o) (same_numbers x y h)

-- ids with the same members
pub same_ids : (a b : FilterId) → SameFilters a b → a ≡ b
same_ids a b h = ap (λ (o : Option NumberSet). let id : FilterId = record { numbers = o } in id) (same_options a.numbers b.numbers h.0 h.1)

-- maps with the same refusals
pub same_maps : (a b : FilterMap) → SameMembers (refuses a) (refuses b) → a ≡ b
same_maps a b h = ap (λ (s : NumberSet). let map : FilterMap = record { disabled_by = s } in map) (same_numbers a.disabled_by b.disabled_by h)

-- ---- a verdict cut down to a set

-- a number is left in the cut word exactly where it was in the word and in the set: none is from 128 on
cut_at : (numbers : FilterSet) (word n : ℕ) → word < 2 ^ 128 → is_one (cut_word numbers 128 word) n ≡ (numbers n && is_one word n)
cut_at numbers word n fits =
    ⊎_elim
    (λ (l : n < 128). cut_word-bit numbers 128 word n l)
    (λ (l : 128 ≤ n).
    none_past (cut_word numbers 128 word) n (cut_word-fits numbers 128 word) l
    ∙ sym (and_right _ _ (none_past word n fits l)))
    (cases_lt n 128)

-- a verdict of which the refusals of these filters alone are left
pub cut_verdict : (numbers : FilterSet) (v : FilterMap) → (w : FilterMap) × ((n : ℕ) → refuses w n ≡ (numbers n && refuses v n))
cut_verdict numbers v =
    let word = v.disabled_by.bits in (
      record { disabled_by = record { bits = cut_word numbers 128 word; fits = cut_word-fits numbers 128 word } },
      λ n. cut_at numbers word n v.disabled_by.fits,
    )
