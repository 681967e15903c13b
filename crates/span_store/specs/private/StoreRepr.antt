-- How the registry keeps its store: a record and extensions under a key for each span, which the
-- slots find.
use Rattle.std.specs.Prelude.{◌≡◌, ◌↔◌, ℕ, ◌≤◌, ◌<◌, ◌+◌, ◌*◌, ◌⊎◌, ◌^◌, ◌-◌, true, false, List, [], ◌∷◌, Option, Some, None, IfSome, IsSome, length, nat_eq, slice_get}
use Rattle.std.specs.BTreeMap.{is_at}
use Rattle.std.specs.HashMap.{HashMap, Updates, get as get_value}
use Rattle.std.specs.FinMap.{FinMap, empty, entries, from_entries, get, insert, len, remove}
use Rattle.std.specs.FinSet.{FinSet, contains, empty as no_items, insert as add, len as set_len}
use Rattle.std.specs.List.Sorted.{IsStrictlySortedBy}
use Rattle.std.specs.List.{count_by}
use Rattle.std.specs.Map.{lookup, keys_of, values_of}
use Rattle.std.specs.Option.{option_map, unwrap_or, IsSomeAnd}
use Rattle.std.specs.Ordering.{nat_cmp}
use Rattle.slab.specs.Slab.{get as under, slab_len}
use Rattle.span_core.specs.Span.{number_of}
use Rattle.span_core.specs.declared.error.TraceError.TheVariants.{CountFull, NoHandle, UnknownSpan}
use Rattle.span_core.specs.declared.error.TraceError.{TraceError}
use Rattle.span_core.specs.declared.span.Id.{Id}
use Rattle.span_core.specs.declared.span.Lane.{Lane}
use Rattle.span_core.specs.declared.span.Parent.{Parent}
use Rattle.span_extensions.specs.Extensions.{no_values}
use Rattle.span_extensions.specs.declared.extensions.ExtensionMap.{ExtensionMap}
use Rattle.span_store.specs.Data.{parent_in, span_of}
use Rattle.span_store.specs.LaneStack.{HeldStack, no_entries, without_entry}
use Rattle.span_store.specs.Step.{FindsParent}
use Rattle.span_store.specs.Store.{RegistryState, Rooms, Span, Spans, Stacks, IsForest, IsOpen, child_count, is_parent, with_room_on, with_stack_on}
use Rattle.span_store.specs.declared.limits.Limits.{Limits}
use Rattle.span_store.specs.declared.registry.Released.TheVariants.{Closing, StillOpen}
use Rattle.span_store.specs.declared.registry.Released.{Released}
use Rattle.span_store.specs.declared.span_record.Counts.{Counts}
use Rattle.span_store.specs.declared.span_record.SpanRecord.{SpanRecord}
use Rattle.span_store.specs.declared.span_store.SpanStore.TheInside.{Inside}

-- the spans that the records keep
abbrev pub spans_in : List (ℕ × SpanRecord) → List (ℕ × Span)
spans_in [] = []
spans_in (e ∷ es) = (e.0, span_of e.1) ∷ spans_in es

-- the spans, as the map of them
abbrev pub spans_of : List (ℕ × SpanRecord) → Spans
spans_of es = from_entries (spans_in es)

-- the stacks, as the map of those that aren't empty
abbrev pub stacks_of : List (ℕ × HeldStack) → Stacks
stacks_of [] = empty
stacks_of (e ∷ es) = with_stack_on (stacks_of es) e.0 (e.1).spans

-- the room of the stacks, as the map of those that have some
abbrev pub rooms_of : List (ℕ × HeldStack) → Rooms
rooms_of [] = empty
rooms_of (e ∷ es) = with_room_on (rooms_of es) e.0 (e.1).room

-- the lanes' stacks, and for how many entries of each memory is held
pub record KeptStacks : Type 0 where
  pub stacks : Stacks
  pub rooms : Rooms

-- lanes without stacks, and without memory for any
abbrev pub no_stacks : KeptStacks
no_stacks = record { stacks = empty; rooms = empty }

-- the stacks of lane 0 and the others
abbrev pub stacks_with : HeldStack → List (ℕ × HeldStack) → KeptStacks
stacks_with first es = record {
  stacks = with_stack_on (stacks_of es) 0 first.spans;
  rooms = with_room_on (rooms_of es) 0 first.room;
}

-- the spans' records and extensions by their numbers, the numbers issued so far, how many slots are
-- retired, for how many spans memory is held, and what limits them
pub record KeptSpans : Type 0 where
  pub records : FinMap nat_cmp SpanRecord
  pub extensions : FinMap nat_cmp ExtensionMap
  pub issued : FinSet nat_cmp
  pub retired : ℕ
  pub reserved : ℕ
  pub limits : Limits

-- a store without spans
abbrev pub no_spans : Limits → KeptSpans
no_spans l = record {
  records = empty;
  extensions = empty;
  issued = no_items;
  retired = 0;
  reserved = 0;
  limits = l;
}

-- a store has nothing, and issued no id
pub record KeepsNothing (s : KeptSpans) : Type 0 where
  pub records : s.records ≡ empty
  pub extensions : s.extensions ≡ empty
  pub issued : s.issued ≡ no_items

-- a number with what is found for it, before these
abbrev pub with_found : {A : Type 0} → ℕ → Option A → List (ℕ × A) → List (ℕ × A)
with_found x None es = es
with_found x (Some r) es = (x, r) ∷ es

-- what is found under the keys of these numbers
abbrev pub found_in : {A : Type 0} → (ℕ → Option A) → List (ℕ × ℕ) → List (ℕ × A)
found_in f [] = []
found_in f (e ∷ es) = with_found e.0 (f e.1) (found_in f es)

-- the spans that these fields keep
abbrev pub kept_of : Inside → KeptSpans
kept_of a = record {
  records = from_entries (found_in (under a.records) (entries a.slots.keys));
  extensions = from_entries (found_in (slice_get a.extensions.items) (entries a.slots.keys));
  issued = a.slots.issued;
  retired = a.slots.retired;
  reserved = a.slots.reserved;
  limits = a.slots.limits;
}

-- each number has a key of its own, under which a record and extensions are found; there is no
-- other record, and without one there is no value; and there is memory for what is reserved
pub record KeepsSpans (a : Inside) : Type 0 where
  pub recorded : (x k : ℕ) → get a.slots.keys x ≡ Some k → IsSome (under a.records k)
  pub extended : (x k : ℕ) → get a.slots.keys x ≡ Some k → IsSome (slice_get a.extensions.items k)
  pub apart : (x y k : ℕ) → get a.slots.keys x ≡ Some k → get a.slots.keys y ≡ Some k → x ≡ y
  pub all : slab_len a.records ≡ len a.slots.keys
  pub idle : (k : ℕ) (e : ExtensionMap) → under a.records k ≡ None
      → slice_get a.extensions.items k ≡ Some e → e ≡ no_values
  pub covered : length a.records.slots ≤ length a.extensions.items
  pub room : a.slots.reserved ≤ a.records.capacity
  pub reached : a.slots.reserved ≤ length a.extensions.items

-- the extensions are those that there were, and then some without a value
abbrev pub GrowsEmpty : List ExtensionMap → List ExtensionMap → Type 0
GrowsEmpty [] [] = Unit {0}
GrowsEmpty [] (y ∷ ys) = (y ≡ no_values) × GrowsEmpty [] ys
GrowsEmpty (x ∷ xs) [] = ⊥
GrowsEmpty (x ∷ xs) (y ∷ ys) = (y ≡ x) × GrowsEmpty xs ys

-- there is no room for one more span
abbrev pub HasNoRoom : KeptSpans → Type 0
HasNoRoom s = s.limits.places ≤ len s.records + s.retired

-- a span more can be put in, and an id is left
pub record HasRoom (s : KeptSpans) : Type 0 where
  pub place : len s.records + s.retired < s.limits.places
  pub id : set_len s.issued < 2 ^ 64 - 1

-- memory is held for no span more: as many as were reserved are in the store, or their slots are
-- retired
abbrev pub HasNoneReserved : KeptSpans → Type 0
HasNoneReserved s = s.reserved ≤ len s.records + s.retired

-- at least as many numbers were issued as all retired slots may hold spans
abbrev pub RetiresKept : KeptSpans → Type 0
RetiresKept s = s.retired * s.limits.generations ≤ set_len s.issued

-- every span was issued
abbrev pub AreKeptIssued : KeptSpans → Type 0
AreKeptIssued s = (x : ℕ) → IsSome (get s.records x) → contains s.issued x ≡ true

-- a span is put in without extensions, under an id that was never issued before
pub record Inserts (id : Id) (span : SpanRecord) (old new : KeptSpans) : Type 0 where
  pub fresh : contains old.issued (number_of id) ≡ false
  pub other : 1 ≤ number_of id
  pub unused : get old.records (number_of id) ≡ None
  pub state : new ≡ record old {
    records = insert old.records (number_of id) span;
    extensions = insert old.extensions (number_of id) no_values;
    issued = add old.issued (number_of id);
  }

-- a span is taken out with its extensions; its slot may be retired by that
pub record TakesOut (id : Id) (old new : KeptSpans) : Type 0 where
  pub records : new.records ≡ remove old.records (number_of id)
  pub extensions : new.extensions ≡ remove old.extensions (number_of id)
  pub issued : new.issued ≡ old.issued
  pub limits : new.limits ≡ old.limits
  pub reserved : new.reserved ≡ old.reserved
  pub retired : old.retired ≤ new.retired
  pub no_other : new.retired ≤ old.retired + 1
  pub late : RetiresKept new

-- the record with a child more
abbrev pub more : SpanRecord → SpanRecord
more r = record r { children = r.children + 1 }

-- the record with a child less
abbrev pub fewer : SpanRecord → SpanRecord
fewer r = record r { children = r.children - 1 }

-- the record with a handle less
abbrev pub released : SpanRecord → SpanRecord
released r = record r { handles = r.handles - 1 }

-- the record with a handle more
abbrev pub cloned : SpanRecord → SpanRecord
cloned r = record r { handles = r.handles + 1 }

-- the spans, where x has this record
abbrev pub with_record : KeptSpans → ℕ → SpanRecord → KeptSpans
with_record s x r = record s { records = insert s.records x r }

-- the spans, where x has these extensions
abbrev pub with_values : KeptSpans → ℕ → ExtensionMap → KeptSpans
with_values s x e = record s { extensions = insert s.extensions x e }

-- the id has a record, of which this holds
abbrev pub HasRecord : KeptSpans → Id → (SpanRecord → Type 0) → Type 0
HasRecord s id holds = IsSomeAnd (get s.records (number_of id)) holds

-- the record of an id is changed by f, and nothing else
abbrev pub Writes : Id → (SpanRecord → SpanRecord) → KeptSpans → KeptSpans → Type 0
Writes id f old new = HasRecord old id (λ r. new ≡ with_record old (number_of id) (f r))

-- how many records name x as their parent
abbrev pub children_of : List (ℕ × SpanRecord) → ℕ → ℕ
children_of es x = count_by (λ r. is_parent x (parent_in r)) (values_of es)

-- the record of x
abbrev pub at : ℕ → List (ℕ × SpanRecord) → Option SpanRecord
at x es = lookup (is_at (nat_cmp x)) es

-- each record counts its children, and parents stand in the store
pub record IsKept (es : List (ℕ × SpanRecord)) : Type 0 where
  pub counted : (x : ℕ) (r : SpanRecord) → at x es ≡ Some r → r.children ≡ children_of es x
  pub forest : IsForest (spans_of es)
  pub ordered : IsStrictlySortedBy nat_cmp (keys_of es)

-- the span as a parent: it is open, with room for a child more; or none, where it isn't open
abbrev pub IsParentAt : RegistryState → Id → Option Id → Type 0
IsParentAt s id (Some p) =
    (p ≡ id) × IsOpen s.store.spans (number_of id)
    × (child_count s.store.spans (number_of id) < s.limits.count)
IsParentAt s id None = ¬ (IsOpen s.store.spans (number_of id))

-- why an open span is no parent: its children are at the limit
abbrev pub RefusesParentAt : RegistryState → Id → TraceError → Type 0
RefusesParentAt s id e =
    (e ≡ CountFull id) × IsOpen s.store.spans (number_of id)
    × (s.limits.count ≤ child_count s.store.spans (number_of id))

-- a new span that asks for this parent gets this one, which has room for a child more, or none
abbrev pub HasParent : RegistryState → Lane → Parent → Option Id → Type 0
HasParent s lane asked parent = FindsParent s lane asked (option_map number_of parent)

-- how many handles and children the record counts
abbrev pub counts_in : SpanRecord → Counts
counts_in r = record { handles = r.handles; children = r.children }

-- a handle or a child is counted
abbrev pub CountsAny : Counts → Type 0
CountsAny k = (0 < k.handles) ⊎ (0 < k.children)

-- the record of an id loses a handle, and by that counts nothing or something still
pub record LosesHandle (id : Id) (answer : Released) (old new : KeptSpans) : Type 0 where
  pub span : SpanRecord
  pub found : get old.records (number_of id) ≡ Some span
  pub held : 0 < span.handles
  pub state : new ≡ with_record old (number_of id) (released span)
  pub closing : (answer ≡ Closing) ↔ ¬ (CountsAny (counts_in (released span)))
  pub still_open : (answer ≡ StillOpen) ↔ CountsAny (counts_in (released span))

-- the record of an id, which counts something, gets a handle more
pub record GainsHandle (id : Id) (old new : KeptSpans) : Type 0 where
  pub span : SpanRecord
  pub found : get old.records (number_of id) ≡ Some span
  pub counts : CountsAny (counts_in span)
  pub room : span.handles < old.limits.count
  pub state : new ≡ with_record old (number_of id) (cloned span)

-- the id has no record that counts anything
abbrev pub CountsNothing : KeptSpans → Id → Type 0
CountsNothing s id = IfSome (get s.records (number_of id)) (λ r. ¬ (CountsAny (counts_in r)))

-- why the record of an id loses no handle: it counts nothing, else no handle
abbrev pub RefusesLoss : KeptSpans → Id → TraceError → Type 0
RefusesLoss s id e =
    ((e ≡ UnknownSpan id) × CountsNothing s id)
    ⊎ ((e ≡ NoHandle id) × HasRecord s id (λ r. CountsAny (counts_in r) × (r.handles ≡ 0)))

-- why the record of an id gets no handle: it counts nothing, else its handles are at the limit
abbrev pub RefusesGain : KeptSpans → Id → TraceError → Type 0
RefusesGain s id e =
    ((e ≡ UnknownSpan id) × CountsNothing s id)
    ⊎ ((e ≡ CountFull id)
    × HasRecord s id (λ r. CountsAny (counts_in r) × (s.limits.count ≤ r.handles)))

-- the record counts no handle, and one child
abbrev pub CountsOneChild : SpanRecord → Type 0
CountsOneChild r = (r.handles ≡ 0) × (r.children ≡ 1)

-- the stack of one of these lanes, if it has one
abbrev pub held_on : {H : Type 0} → HashMap ℕ HeldStack H → Lane → HeldStack
held_on m lane = unwrap_or (get_value nat_eq m lane.0) no_entries

-- the stack of one of these lanes is changed so, and no other stack changes
abbrev pub ChangesStack : {H : Type 0} → Lane → (HeldStack → HeldStack) → HashMap ℕ HeldStack H
    → HashMap ℕ HeldStack H → Type 0
ChangesStack lane f old new = Updates nat_eq old new lane.0 (Some (f (held_on old lane)))

-- a span is taken off the stack of one of these lanes, if that has one, and no other stack changes
pub record TakesOff {H : Type 0} (lane : Lane) (id : Id) (old new : HashMap ℕ HeldStack H) : Type
    0 where
  pub none : get_value nat_eq old lane.0 ≡ None → new.entries ≡ old.entries
  pub some : IfSome (get_value nat_eq old lane.0)
      (λ s. Updates nat_eq old new lane.0 (Some (without_entry (number_of id) s)))
