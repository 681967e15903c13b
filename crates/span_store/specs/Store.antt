-- The store of spans, as every call of the registry sees it.
use Rattle.std.specs.Prelude.{◌≡◌, ℕ, ◌+◌, ◌-◌, ◌<◌, ◌⊎◌, zero, suc, Bool, true, false, nat_eq, List, [], ◌∷◌, Option, Some, None}
use Rattle.std.specs.FinMap.{FinMap, empty, get, insert, remove, values}
use Rattle.std.specs.FinSet.{FinSet, contains, empty as no_items}
use Rattle.std.specs.List.{count_by}
use Rattle.std.specs.Option.{option_and_then, option_map, unwrap_or}
use Rattle.std.specs.Ordering.{nat_cmp}
use Rattle.span_core.specs.declared.filter.FilterMap.{FilterMap}
use Rattle.span_core.specs.declared.metadata.Metadata.{Metadata}
use Rattle.span_extensions.specs.declared.extensions.ExtensionMap.{ExtensionMap}
use Rattle.span_store.specs.declared.limits.Limits.{Limits}

-- a span in the store: the filters that refused it when it was made are its verdict
pub record Span : Type 0 where
  pub metadata : Metadata
  pub parent : Option ℕ
  pub handles : ℕ
  pub verdict : FilterMap

-- the spans in the store, by their numbers
abbrev pub Spans : Type 0
Spans = FinMap nat_cmp Span

-- the stacks by lane; a lane that has none has the empty one
abbrev pub Stacks : Type 0
Stacks = FinMap nat_cmp (List ℕ)

-- the extensions of the spans in the store, by their numbers
abbrev pub SpanExtensions : Type 0
SpanExtensions = FinMap nat_cmp ExtensionMap

-- the spans with their extensions, the ids issued so far, and the lanes' stacks
pub record Store : Type 0 where
  pub spans : Spans
  pub extensions : FinMap nat_cmp ExtensionMap
  pub issued : FinSet nat_cmp
  pub stacks : Stacks

-- for how many entries of its stack memory is held, by lane; a lane for which none is held has none
abbrev pub Rooms : Type 0
Rooms = FinMap nat_cmp ℕ

-- what memory is held for before it is used: how many places, those that hold a span or are retired
-- among them, and how many entries of a lane's stack
pub record Reserve : Type 0 where
  pub places : ℕ
  pub entries : FinMap nat_cmp ℕ

-- a registry: its store, its limits, how many filters it handed out, how many places are retired,
-- and what memory is held for
pub record RegistryState : Type 0 where
  pub store : Store
  pub limits : Limits
  pub filters : ℕ
  pub retired : ℕ
  pub reserved : Reserve

-- nothing issued, no span, no stack
abbrev pub empty_store : Store
empty_store = record { spans = empty; extensions = empty; issued = no_items; stacks = empty }

-- a reserve by which no memory is held
abbrev pub no_reserve : Reserve
no_reserve = record { places = 0; entries = empty }

-- a registry that issued no id: it has nothing of a span, and no stack
abbrev pub IsFresh : RegistryState → Type 0
IsFresh s = s.store ≡ empty_store

-- a registry as it begins
abbrev pub new_registry : Limits → RegistryState
new_registry l =
    record { store = empty_store; limits = l; filters = 0; retired = 0; reserved = no_reserve }

-- the registry with these spans
abbrev pub with_spans : RegistryState → Spans → RegistryState
with_spans s m = record s { store = record s.store { spans = m } }

-- the stack of a lane
abbrev pub stack_on : Stacks → ℕ → List ℕ
stack_on m lane = unwrap_or (get m lane) []

-- each lane has the stack that it had
abbrev pub SameStacks : (old new : Store) → Type 0
SameStacks old new = (lane : ℕ) → stack_on new.stacks lane ≡ stack_on old.stacks lane

-- the stacks, where a lane has this one
abbrev pub with_stack_on : Stacks → ℕ → List ℕ → Stacks
with_stack_on m lane [] = remove m lane
with_stack_on m lane (x ∷ xs) = insert m lane (x ∷ xs)

-- for how many entries of a lane's stack memory is held
abbrev pub room_on : FinMap nat_cmp ℕ → ℕ → ℕ
room_on m lane = unwrap_or (get m lane) 0

-- the rooms, where a lane has this one
abbrev pub with_room_on : Rooms → ℕ → ℕ → Rooms
with_room_on m lane zero = remove m lane
with_room_on m lane (suc n) = insert m lane (suc n)

-- the registry, where x has these extensions
abbrev pub with_extensions : RegistryState → ℕ → ExtensionMap → RegistryState
with_extensions s x e =
    record s { store = record s.store { extensions = insert s.store.extensions x e } }

-- x is in the store
abbrev pub IsInStore : Spans → ℕ → Type 0
IsInStore m x = (r : Span) × (get m x ≡ Some r)

-- some span has x as its parent
abbrev pub HasChild : Spans → ℕ → Type 0
HasChild m x = (c : ℕ) × (r : Span) × (get m c ≡ Some r) × (r.parent ≡ Some x)

-- x has a handle
abbrev pub IsHeld : Spans → ℕ → Type 0
IsHeld m x = (r : Span) × (get m x ≡ Some r) × (0 < r.handles)

-- x has a handle or a child
abbrev pub IsOpen : Spans → ℕ → Type 0
IsOpen m x = (r : Span) × (get m x ≡ Some r) × ((0 < r.handles) ⊎ HasChild m x)

-- x is in the store with neither a handle nor a child
abbrev pub IsClosing : Spans → ℕ → Type 0
IsClosing m x = (r : Span) × (get m x ≡ Some r) × (r.handles ≡ 0) × ¬ (HasChild m x)

-- how many handles x has; none if it isn't in the store
abbrev pub handles_of : Spans → ℕ → ℕ
handles_of m x = unwrap_or (option_map (λ r. r.handles) (get m x)) 0

-- the spans, where the number of handles of x is changed by f
abbrev pub with_handles : (ℕ → ℕ) → Spans → ℕ → Option Span → Spans
with_handles f m x None = m
with_handles f m x (Some r) = insert m x (record r { handles = f r.handles })

-- the spans, with a handle more on x
abbrev pub add_handle : Spans → ℕ → Spans
add_handle m x = with_handles (λ n. n + 1) m x (get m x)

-- the spans, with a handle less on x
abbrev pub take_handle : Spans → ℕ → Spans
take_handle m x = with_handles (λ n. n - 1) m x (get m x)

-- whether a parent is x
abbrev pub is_parent : ℕ → Option ℕ → Bool
is_parent x None = false
is_parent x (Some p) = nat_eq x p

-- how many spans have x as their parent
abbrev pub child_count : Spans → ℕ → ℕ
child_count m x = count_by (λ s. is_parent x s.parent) (values m)

-- the parent of x, if x is in the store and has one
abbrev pub parent_of : Spans → ℕ → Option ℕ
parent_of m x = option_and_then (λ r. r.parent) (get m x)

-- a span that may be none, its parent, and so on up to a root
abbrev pub IsChain : Spans → Option ℕ → List ℕ → Type 0
IsChain m None [] = Unit {0}
IsChain m (Some x) (y ∷ ys) = (x ≡ y) × (r : Span) × (get m x ≡ Some r) × IsChain m r.parent ys
IsChain m o xs = ⊥

-- each parent of a span in the store is in it, and each chain of parents ends at a root
abbrev pub IsForest : Spans → Type 0
IsForest m = (x : ℕ) (r : Span) → get m x ≡ Some r → (xs : List ℕ) × IsChain m (Some x) xs

-- every span in the store was issued
abbrev pub AreIssued : Store → Type 0
AreIssued s = (x : ℕ) → IsInStore s.spans x → contains s.issued x ≡ true
