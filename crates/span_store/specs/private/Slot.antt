-- How spans have slots: the key of each number that a slot holds. No public contract cites this.
use Rattle.std.specs.Prelude.{◌≡◌, ℕ, ◌+◌, ◌-◌, ◌*◌, ◌<◌, ◌≤◌, ◌⊎◌, ◌^◌, max, vec_capacity, Bool, true, false, cond, not, ◌&&◌, is_some, nat_eq, nat_lt, List, [], ◌∷◌, ◌++◌, length, Option, Some, None, zero, suc, slice_get, IsSome}
use Rattle.std.specs.FinMap.{FinMap, empty, from_entries, get, insert, len, remove}
use Rattle.std.specs.FinSet.{FinSet, contains, empty as no_items, from_list, insert as add, len as set_len}
use Rattle.std.specs.List.{count_by}
use Rattle.std.specs.Option.{option_map_or}
use Rattle.std.specs.Ordering.{nat_cmp}
use Rattle.std.specs.declared.alloc.Global.{Global}
use Rattle.std.specs.declared.vec.Vec.{Vec}
use Rattle.span_core.specs.Span.{number_of}
use Rattle.span_core.specs.declared.span.Id.{Id}
use Rattle.span_store.specs.declared.limits.Limits.{Limits}
use Rattle.span_store.specs.declared.slot.Slot.{Slot}
use Rattle.span_store.specs.declared.slot.Slots.TheInside.{Inside}

-- the key of each number that a slot holds, the numbers issued so far, how many slots are retired,
-- how many there is memory for, and what limits them
pub record SlotState : Type 0 where
  pub keys : FinMap nat_cmp ℕ
  pub issued : FinSet nat_cmp
  pub retired : ℕ
  pub reserved : ℕ
  pub limits : Limits

-- slots as they begin
abbrev pub no_slots : Limits → SlotState
no_slots l =
    record { keys = empty; issued = no_items; retired = 0; reserved = 0; limits = l }

-- no number is held, and none was issued
pub record AreUnused (s : SlotState) : Type 0 where
  pub keys : s.keys ≡ empty
  pub issued : s.issued ≡ no_items

-- a slot is left, and an id
pub record HasSlot (s : SlotState) : Type 0 where
  pub place : len s.keys + s.retired < s.limits.places
  pub id : set_len s.issued < 2 ^ 64 - 1

-- every slot that there may be holds a span or is retired
abbrev pub HasNoSlot : SlotState → Type 0
HasNoSlot s = s.limits.places ≤ len s.keys + s.retired

-- memory is held for no slot more: as many as were reserved hold a span or are retired
abbrev pub HasNoSlotReserved : SlotState → Type 0
HasNoSlotReserved s = s.reserved ≤ len s.keys + s.retired

-- a slot more needs memory, or room for it among the free ones does
abbrev pub WantsMemory : Vec Slot Global → Vec ℕ Global → Type 0
WantsMemory slots free =
    (vec_capacity slots ≤ length slots.items)
    ⊎ (vec_capacity free ≤ length free.items + length slots.items)

-- at least as many numbers were issued as all retired slots may hold spans
abbrev pub RetiresInTime : SlotState → Type 0
RetiresInTime s = s.retired * s.limits.generations ≤ set_len s.issued

-- a number that was never issued is held, under this key
pub record TakesSlot (key : ℕ) (id : Id) (old new : SlotState) : Type 0 where
  pub fresh : contains old.issued (number_of id) ≡ false
  pub other : 1 ≤ number_of id
  pub unused : get old.keys (number_of id) ≡ None
  pub state : new ≡ record old
      { keys = insert old.keys (number_of id) key; issued = add old.issued (number_of id) }

-- a number is held no longer; its slot is retired by that exactly where the number is of the last
-- generation
pub record GivesBack (id : Id) (old new : SlotState) : Type 0 where
  pub keys : new.keys ≡ remove old.keys (number_of id)
  pub issued : new.issued ≡ old.issued
  pub limits : new.limits ≡ old.limits
  pub reserved : new.reserved ≡ old.reserved
  pub last : old.limits.generations * 2 ^ 32 < number_of id + 2 ^ 32 → new.retired ≡ old.retired + 1
  pub not_last : number_of id + 2 ^ 32 ≤ old.limits.generations * 2 ^ 32 → new.retired ≡ old.retired
  pub late : RetiresInTime new

-- every number that is held was issued
abbrev pub AreHeldIssued : SlotState → Type 0
AreHeldIssued s = (x : ℕ) → IsSome (get s.keys x) → contains s.issued x ≡ true

-- the number that slot i holds in generation g
abbrev pub number_at : ℕ → ℕ → ℕ
number_at i g = g * 4294967296 + i + 1

-- there is no slot that holds this number in any generation
abbrev pub IsOfNoSlot : ℕ → Type 0
IsOfNoSlot x = (i g : ℕ) → i < 4294967295 → x ≡ number_at i g → ⊥

-- a slot that holds its first span, under this key
abbrev pub first_held : ℕ → Slot
first_held key = record { generation = 0; key = Some key }

-- the key that a slot has in generation g
abbrev pub key_of_slot : Slot → ℕ → Option ℕ
key_of_slot p g = cond (nat_eq p.generation g) p.key None

-- how many numbers were issued at a slot
abbrev pub issued_at : Slot → ℕ
issued_at p = p.generation + cond (is_some p.key) 1 0

-- a number before these, if it has a key
abbrev pub with_key : ℕ → Option ℕ → List (ℕ × ℕ) → List (ℕ × ℕ)
with_key x None es = es
with_key x (Some k) es = (x, k) ∷ es

-- the numbers that the slots from i on hold, with their keys
abbrev pub held_from : ℕ → List Slot → List (ℕ × ℕ)
held_from i [] = []
held_from i (p ∷ ps) = with_key (number_at i p.generation) p.key (held_from (suc i) ps)

-- the numbers of the first g generations at slot i
abbrev pub numbers_at : ℕ → ℕ → List ℕ
numbers_at i zero = []
numbers_at i (suc g) = number_at i g ∷ numbers_at i g

-- the numbers that were issued at the slots from i on
abbrev pub issued_from : ℕ → List Slot → List ℕ
issued_from i [] = []
issued_from i (p ∷ ps) = numbers_at i (issued_at p) ++ issued_from (suc i) ps

-- the state that these fields keep
abbrev pub slots_of : Inside → SlotState
slots_of a = record {
  keys = from_entries (held_from 0 a.slots.items);
  issued = from_list (issued_from 0 a.slots.items);
  retired = a.retired;
  reserved = a.reserved;
  limits = a.limits;
}

-- the slot holds a span
abbrev pub is_held : Slot → Bool
is_held p = is_some p.key

-- the slot holds none, and may hold one more
abbrev pub is_free : ℕ → Slot → Bool
is_free generations p = not (is_some p.key) && nat_lt p.generation generations

-- the slot held its last span
abbrev pub is_retired : ℕ → Slot → Bool
is_retired generations p = not (is_some p.key) && not (nat_lt p.generation generations)

-- slot i is there, and free
abbrev pub is_free_at : ℕ → List Slot → ℕ → Bool
is_free_at generations ps i = option_map_or (is_free generations) (slice_get ps i) false

-- what the slots keep true: each one held a span and no more than it may, and the free list has
-- each free slot once
pub record IsSound (ps : List Slot) (free : List ℕ) (room gone : ℕ) (l : Limits) : Type 0 where
  pub used : (i : ℕ) (p : Slot) → slice_get ps i ≡ Some p → 1 ≤ issued_at p
  pub within : (i : ℕ) (p : Slot) → slice_get ps i ≡ Some p → issued_at p ≤ max 1 l.generations
  pub listed : (i : ℕ) → count_by (nat_eq i) free ≡ cond (is_free_at l.generations ps i) 1 0
  pub freed : length free ≡ count_by (is_free l.generations) ps
  pub retired : gone ≡ count_by (is_retired l.generations) ps
  pub fits : length ps ≤ room
  pub few : length ps ≤ l.places
  pub places : l.places ≤ 4294967295
  pub generations : l.generations ≤ 4294967295

-- what the slots keep true of their fields: they are sound, and memory is held for the slots that
-- were reserved, also among the free ones
pub record KeepsSlots (a : Inside) : Type 0 where
  pub sound : IsSound a.slots.items a.free.items (vec_capacity a.free) a.retired a.limits
  pub made : a.reserved ≤ vec_capacity a.slots
  pub freed : a.reserved ≤ vec_capacity a.free
