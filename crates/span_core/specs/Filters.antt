-- Sets of filters, by the numbers of their members.
use Rattle.std.specs.Prelude.{◌≡◌, ℕ, ◌<◌, Bool, false, not, ◌&&◌, ◌||◌, is_some, IsTrue}
use Rattle.std.specs.Option.{option_map_or}
use Rattle.span_core.specs.declared.filter.FilterId.{FilterId}
use Rattle.span_core.specs.declared.filter.FilterMap.{FilterMap}
use Rattle.span_core.specs.declared.number_set.TheConstants.{LIMIT}
use Rattle.span_core.specs.NumberSet.{SetsAll, has_number, some_below}

-- a set of filters, given by a test of their numbers
abbrev pub FilterSet : Type 0
FilterSet = ℕ → Bool

-- no filter is in the set
abbrev pub IsEmpty : FilterSet → Type 0
IsEmpty a = (n : ℕ) → a n ≡ false

-- the filters that are in either set
abbrev pub union : FilterSet → FilterSet → FilterSet
union a b n = a n || b n

-- the sets have the same filters, among the numbers below 128
abbrev pub SameMembers : FilterSet → FilterSet → Type 0
SameMembers a b = (n : ℕ) → n < LIMIT → a n ≡ b n

-- a filter is in both sets, among the numbers below 128
abbrev pub HaveCommon : FilterSet → FilterSet → Type 0
HaveCommon a b = (n : ℕ) × ((n < LIMIT) × IsTrue (a n) × IsTrue (b n))

-- whether a filter is in both sets, among the numbers below 128
abbrev pub meets : FilterSet → FilterSet → Bool
meets a b = some_below LIMIT (λ n. a n && b n)

-- whether the id's filters have their numbers
abbrev pub is_attached : FilterId → Bool
is_attached id = is_some id.numbers

-- the filters of the id: none where it is unattached
abbrev pub has_filter : FilterId → FilterSet
has_filter id n = option_map_or (λ numbers. has_number numbers n) id.numbers false

-- the ids have the same filters, and both or neither have their numbers
abbrev pub SameFilters : FilterId → FilterId → Type 0
SameFilters a b = (is_attached a ≡ is_attached b) × SameMembers (has_filter a) (has_filter b)

-- the first id has the filters of the two others, and no further one
abbrev pub HasFiltersOfBoth : FilterId → FilterId → FilterId → Type 0
HasFiltersOfBoth id a b = (n : ℕ) → has_filter id n ≡ union (has_filter a) (has_filter b) n

-- the filters that refused
abbrev pub refuses : FilterMap → FilterSet
refuses map n = has_number map.disabled_by n

-- the filters of the id refuse where they are not enabled, and no other filter changes
abbrev pub SetsFilters : (old new : FilterMap) → FilterId → Bool → Type 0
SetsFilters old new id enabled = SetsAll (refuses old) (refuses new) (has_filter id) (not enabled)

-- a filter of the mask is among those that refused
abbrev pub HasRefusal : FilterId → FilterMap → Type 0
HasRefusal mask verdict = HaveCommon (has_filter mask) (refuses verdict)

-- whether a filter of the mask is among those that refused
abbrev pub is_hidden : FilterId → FilterMap → Bool
is_hidden mask verdict = meets (has_filter mask) (refuses verdict)

-- the first mask hides what one of the two others hides, and nothing else
abbrev pub HidesAsEither : FilterId → FilterId → FilterId → Type 0
HidesAsEither mask a b = (v : FilterMap) → is_hidden mask v ≡ (is_hidden a v || is_hidden b v)

-- whether the id is attached and none of its filters refused
abbrev pub is_enabled : FilterMap → FilterId → Bool
is_enabled map id = is_attached id && not (is_hidden id map)
