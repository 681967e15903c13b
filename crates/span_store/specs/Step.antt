-- What each call does to a registry, and when it is refused. A step's word takes what its call
-- takes and gives, then the registry before and after.
use Rattle.std.specs.Prelude.{◌≡◌, ◌↔◌, ◌==◌, ℕ, ◌+◌, ◌-◌, ◌*◌, ◌⊎◌, ◌<◌, ◌≤◌, false, IsTrue, Option, Some, None, IfSome, List, [], ◌∷◌, ◌++◌, ◌^◌, length, max}
use Rattle.std.specs.FinMap.{get, insert, len}
use Rattle.std.specs.FinSet.{contains, insert as add, len as set_len}
use Rattle.std.specs.Option.{option_map}
use Rattle.span_core.specs.Filters.{has_filter, is_attached}
use Rattle.span_core.specs.Pass.{refused_of}
use Rattle.span_core.specs.Span.{asked_parent, current_span, metadata_of, number_of}
use Rattle.span_core.specs.declared.error.TraceError.TheVariants.{UnknownSpan, UnknownParent, NoHandle, TooManyFilters, CountFull, TooManySpans, OutOfMemory}
use Rattle.span_core.specs.declared.error.TraceError.{TraceError}
use Rattle.span_core.specs.declared.filter.FilterId.{FilterId}
use Rattle.span_core.specs.declared.filter.FilterMap.{FilterMap}
use Rattle.span_core.specs.declared.filter.TheConstants.FilterId.{LIMIT}
use Rattle.span_core.specs.declared.metadata.Metadata.{Metadata}
use Rattle.span_core.specs.declared.pass.Pass.{Pass}
use Rattle.span_core.specs.declared.span.Attributes.{Attributes}
use Rattle.span_core.specs.declared.span.Current.{Current}
use Rattle.span_core.specs.declared.span.Id.{Id}
use Rattle.span_core.specs.declared.span.Lane.{Lane}
use Rattle.span_core.specs.declared.span.Parent.TheVariants.{Root, Contextual, Explicit}
use Rattle.span_core.specs.declared.span.Parent.{Parent}
use Rattle.span_extensions.specs.Extensions.{no_values}
use Rattle.span_store.specs.Closes.{Closes, without}
use Rattle.span_store.specs.LaneStack.{last_entered, leave}
use Rattle.span_store.specs.Store.{Span, Store, RegistryState, IsClosing, IsHeld, IsInStore, IsOpen, add_handle, child_count, handles_of, parent_of, room_on, stack_on, take_handle, with_room_on, with_spans, with_stack_on}
use Rattle.span_store.specs.declared.registry.Released.TheVariants.{StillOpen, Closing}
use Rattle.span_store.specs.declared.registry.Released.{Released}

-- the newest entry of the lane's stack that is no duplicate
abbrev pub entered_last : Store → ℕ → Option ℕ
entered_last s lane = last_entered (stack_on s.stacks lane)

-- the span that a lane is in: its newest entry that is no duplicate, if it is in the store
abbrev pub IsCurrent : Store → ℕ → Option ℕ → Type 0
IsCurrent s lane (Some x) = (entered_last s lane ≡ Some x) × IsInStore s.spans x
IsCurrent s lane None = IfSome (entered_last s lane) (λ x. ¬ (IsInStore s.spans x))

-- what is shown is the span that a lane is in, with its metadata
pub record ShowsCurrent (s : Store) (lane : Lane) (shown : Current) : Type 0 where
  pub span : IsCurrent s lane.0 (option_map (λ o. number_of o.0) (current_span shown))
  pub metadata : IfSome (current_span shown)
      (λ o. option_map (λ r. r.metadata) (get s.spans (number_of o.0)) ≡ Some o.1)

-- what a new span is to be: its metadata, the parent that it asks for, and the filters that refuse
-- it
pub record AskedSpan : Type 0 where
  pub metadata : Metadata
  pub parent : Parent
  pub verdict : FilterMap

-- the span that these attributes ask for, and that the pass's refusing filters refuse
abbrev pub asked : Attributes → Pass → AskedSpan
asked attrs pass =
    record { metadata = metadata_of attrs; parent = asked_parent attrs; verdict = refused_of pass }

-- the parent that a contextual span gets: the span that its lane is in, if it is open
abbrev pub IsContext : Store → Lane → Option ℕ → Type 0
IsContext s lane (Some x) = (entered_last s lane.0 ≡ Some x) × IsOpen s.spans x
IsContext s lane None = IfSome (entered_last s lane.0) (λ x. ¬ (IsOpen s.spans x))

-- the parent that a new span gets
abbrev pub IsParentFor : Store → Lane → Parent → Option ℕ → Type 0
IsParentFor s lane Root o = o ≡ None
IsParentFor s lane Contextual o = IsContext s lane o
IsParentFor s lane (Explicit x) o = (o ≡ Some (number_of x)) × IsOpen s.spans (number_of x)

-- a new span that asks for this parent gets this one, which has room for a child more, or none
pub record FindsParent (s : RegistryState) (lane : Lane) (wanted : Parent) (parent : Option ℕ)
    : Type 0 where
  pub chosen : IsParentFor s.store lane wanted parent
  pub room : IfSome parent (λ p. child_count s.store.spans p < s.limits.count)

-- a place is left, and an id
pub record HasPlace (s : RegistryState) : Type 0 where
  pub place : len s.store.spans + s.retired < s.limits.places
  pub id : set_len s.store.issued < 2 ^ 64 - 1

-- no memory is held for one more span: as many places as were reserved hold a span or are retired
abbrev pub HasNoPlaceReserved : RegistryState → Type 0
HasNoPlaceReserved s = s.reserved.places ≤ len s.store.spans + s.retired

-- no memory is held for one more entry on a lane: its stack has as many as were reserved for it
abbrev pub HasNoEntryReserved : RegistryState → Lane → Type 0
HasNoEntryReserved s lane =
    room_on s.reserved.entries lane.0 ≤ length (stack_on s.store.stacks lane.0)

-- the registry that holds memory for so many places at least
abbrev pub with_places_reserved : RegistryState → ℕ → RegistryState
with_places_reserved s n =
    record s { reserved = record s.reserved { places = max s.reserved.places n } }

-- the registry that holds memory for so many entries of a lane's stack at least
abbrev pub with_entries_reserved : RegistryState → Lane → ℕ → RegistryState
with_entries_reserved s lane n =
    record s {
      reserved = record s.reserved {
        entries = with_room_on s.reserved.entries lane.0
            (max (room_on s.reserved.entries lane.0) n);
      };
    }

-- a span as it begins: with one handle
abbrev pub begun : AskedSpan → Option ℕ → Span
begun span parent =
    record { metadata = span.metadata; parent = parent; handles = 1; verdict = span.verdict }

-- the registry, where this span is in the store without extensions, and its id was issued
abbrev pub with_span : RegistryState → ℕ → Span → RegistryState
with_span s x r =
    record s {
      store = record s.store {
        spans = insert s.store.spans x r;
        extensions = insert s.store.extensions x no_values;
        issued = add s.store.issued x;
      };
    }

-- a span is opened under an id that was never issued before
pub record Opens (lane : Lane) (span : AskedSpan) (id : Id) (old new : RegistryState) : Type 0 where
  pub parent : Option ℕ
  pub finds : FindsParent old lane span.parent parent
  pub place : HasPlace old
  pub fresh : contains old.store.issued (number_of id) ≡ false
  pub other : ¬ (number_of id ≡ 0)
  pub unused : get old.store.spans (number_of id) ≡ None
  pub state : new ≡ with_span old (number_of id) (begun span parent)

-- why a new span is refused: an unknown parent, else a full one, else no place or id, else memory,
-- of which none is held for it
abbrev pub RefusesNew : RegistryState → Lane → Parent → TraceError → Type 0
RefusesNew s lane wanted (UnknownParent x) =
    (wanted ≡ Explicit x) × ¬ (IsOpen s.store.spans (number_of x))
RefusesNew s lane wanted (CountFull x) =
    IsParentFor s.store lane wanted (Some (number_of x))
    × (s.limits.count ≤ child_count s.store.spans (number_of x))
RefusesNew s lane wanted TooManySpans =
    ((parent : Option ℕ) × FindsParent s lane wanted parent) × ¬ (HasPlace s)
RefusesNew s lane wanted OutOfMemory =
    ((parent : Option ℕ) × FindsParent s lane wanted parent) × HasPlace s × HasNoPlaceReserved s
RefusesNew s lane wanted other = ⊥

-- so many places are refused for want of memory, and fewer were reserved
abbrev pub RefusesPlaces : RegistryState → ℕ → TraceError → Type 0
RefusesPlaces s n e = (e ≡ OutOfMemory) × (s.reserved.places < n)

-- so many entries of a lane's stack are refused for want of memory, and fewer were reserved for it
abbrev pub RefusesEntries : RegistryState → Lane → ℕ → TraceError → Type 0
RefusesEntries s lane n e = (e ≡ OutOfMemory) × (room_on s.reserved.entries lane.0 < n)

-- the store, where x is entered on a lane
abbrev pub entered : Store → ℕ → ℕ → Store
entered s l x = record s { stacks = with_stack_on s.stacks l (x ∷ stack_on s.stacks l) }

-- the store, where x is left on a lane
abbrev pub exited : Store → ℕ → ℕ → Store
exited s l x = record s { stacks = with_stack_on s.stacks l (leave x (stack_on s.stacks l)) }

-- a lane enters an open span
pub record Enters (lane : Lane) (id : Id) (old new : RegistryState) : Type 0 where
  pub is_open : IsOpen old.store.spans (number_of id)
  pub state : new ≡ record old { store = entered old.store lane.0 (number_of id) }

-- a lane leaves a span, whether that is open and stands on its stack or not
abbrev pub Exits : Lane → Id → RegistryState → RegistryState → Type 0
Exits lane id old new = new ≡ record old { store = exited old.store lane.0 (number_of id) }

-- why what is asked of a span is refused: it isn't open
abbrev pub RefusesUnlessOpen : RegistryState → Id → TraceError → Type 0
RefusesUnlessOpen s x e = (e ≡ UnknownSpan x) × ¬ (IsOpen s.store.spans (number_of x))

-- why a lane does not enter a span: it isn't open, else memory, of which none is held for the entry
abbrev pub RefusesEnter : RegistryState → Lane → Id → TraceError → Type 0
RefusesEnter s lane x e =
    RefusesUnlessOpen s x e
    ⊎ ((e ≡ OutOfMemory) × IsOpen s.store.spans (number_of x) × HasNoEntryReserved s lane)

-- an open span gets a handle more
pub record Clones (id : Id) (old new : RegistryState) : Type 0 where
  pub is_open : IsOpen old.store.spans (number_of id)
  pub room : handles_of old.store.spans (number_of id) < old.limits.count
  pub state : new ≡ with_spans old (add_handle old.store.spans (number_of id))

-- why no handle is added: the span isn't open, else its handles are at the limit
abbrev pub RefusesClone : RegistryState → Id → TraceError → Type 0
RefusesClone s x e =
    RefusesUnlessOpen s x e
    ⊎ ((e ≡ CountFull x) × IsOpen s.store.spans (number_of x)
    × (s.limits.count ≤ handles_of s.store.spans (number_of x)))

-- a span loses a handle, and by that it is closing or still open
pub record Releases (id : Id) (answer : Released) (old new : RegistryState) : Type 0 where
  pub held : IsHeld old.store.spans (number_of id)
  pub state : new ≡ with_spans old (take_handle old.store.spans (number_of id))
  pub closing : (answer ≡ Closing) ↔ IsClosing new.store.spans (number_of id)
  pub still_open : (answer ≡ StillOpen) ↔ IsOpen new.store.spans (number_of id)

-- why no handle is taken away: the span isn't open, else it has none
abbrev pub RefusesRelease : RegistryState → Id → TraceError → Type 0
RefusesRelease s x e = RefusesUnlessOpen s x e
    ⊎ ((e ≡ NoHandle x) × IsOpen s.store.spans (number_of x)
    × ¬ (IsHeld s.store.spans (number_of x)))

-- at least as many ids were issued as all retired places may hold spans
abbrev pub RetiresLate : RegistryState → Type 0
RetiresLate s = s.retired * s.limits.generations ≤ set_len s.store.issued

-- these spans are taken out; their places may be retired by that, and no other
pub record TakesOut (old : RegistryState) (xs : List ℕ) (new : RegistryState) : Type 0 where
  pub store : new.store ≡ without old.store xs
  pub limits : new.limits ≡ old.limits
  pub filters : new.filters ≡ old.filters
  pub reserved : new.reserved ≡ old.reserved
  pub retired : old.retired ≤ new.retired
  pub no_other : new.retired ≤ old.retired + length xs
  pub late : RetiresLate old → RetiresLate new

-- a span is taken out, and its parent is answered exactly if it is closing by that
pub record Removes (id : Id) (answer : Option Id) (old new : RegistryState) : Type 0 where
  pub taken : TakesOut old (number_of id ∷ []) new
  pub late : RetiresLate new
  pub fewer : len new.store.spans < len old.store.spans
  pub closing : IfSome answer
      (λ p. (parent_of old.store.spans (number_of id) ≡ Some (number_of p))
      × IsClosing new.store.spans (number_of p))
  pub still_open : answer ≡ None → (p : ℕ) → parent_of old.store.spans (number_of id) ≡ Some p
      → IsOpen new.store.spans p

-- from a registry in which a span is closing: these spans were taken out, one after another, and
-- the one that `remove` answered last is next; in between, what `between` says may happen
pub data Removal (between : RegistryState → RegistryState → Type 0) (first : RegistryState)
    (id : Id) : List ℕ → Option Id → RegistryState → Type 0 where
  Begun : Removal between first id [] (Some id) first
  Between : {xs : List ℕ} {o : Option Id} {now new : RegistryState}
      → Removal between first id xs o now → between now new → Removal between first id xs o new
  Removed : {xs : List ℕ} {o : Option Id} {next : Id} {now new : RegistryState}
      → Removal between first id xs (Some next) now → Removes next o now new
      → Removal between first id (xs ++ (number_of next ∷ [])) o new

-- a handle is taken from x in a store where no span is closing, and what is closed by that is taken
-- out
pub record Drops (old : RegistryState) (x : ℕ) (closed : List ℕ) (new : RegistryState) : Type
    0 where
  pub closes : Closes old.store.spans x closed
  pub taken : TakesOut (with_spans old (take_handle old.store.spans x)) closed new

-- the next filter is handed out
pub record HandsOut (filter : FilterId) (old new : RegistryState) : Type 0 where
  pub room : old.filters < LIMIT
  pub attached : IsTrue (is_attached filter)
  pub number : (n : ℕ) → has_filter filter n ≡ (n == old.filters)
  pub state : new ≡ record old { filters = old.filters + 1 }

-- why no filter is handed out: all were
abbrev pub RefusesFilter : RegistryState → TraceError → Type 0
RefusesFilter s TooManyFilters = LIMIT ≤ s.filters
RefusesFilter s other = ⊥
