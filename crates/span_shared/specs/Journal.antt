-- A journal of requests: when an entry may happen in a store, and which store it leaves.
use Rattle.std.specs.Prelude.{◌≡◌, ◌↔◌, ℕ, Bool, false, IsTrue, List, [], ◌∷◌, ◌++◌, Option, Some, length, slice_get}
use Rattle.std.specs.{FinMap.empty, FinMap.insert, FinSet.contains, FinSet.insert as add}
use Rattle.std.specs.{List.FoldsTo, Option.option_map}
use Rattle.span_core.specs.Span.{number_of}
use Rattle.span_core.specs.declared.{filter.FilterMap.FilterMap, metadata.Metadata.Metadata}
use Rattle.span_core.specs.declared.span.{Id.Id, Lane.Lane}
use Rattle.span_dispatch.specs.Serve.{stack_of}
use Rattle.span_dispatch.specs.declared.dispatch.Dispatch.{Dispatch}
use Rattle.span_shared.specs.declared.entry.EntryWith.TheVariants.{New, Unmade, Event, Probe, Enter, Exit, Record, Follows, Clone, Drop, Reload, Current}
use Rattle.span_shared.specs.declared.entry.EntryWith.{EntryWith}
use Rattle.span_store.specs.Closes.{Closes, HasNoClosing, Member, remove_all}
use Rattle.span_store.specs.Step.{AskedSpan, IsCurrent, IsParentFor, begun, entered, exited}
use Rattle.span_store.specs.Store.{IsHeld, IsOpen, RegistryState, Store, add_handle, empty_store, take_handle}

-- an entry of a journal: an accepted request, with its lane and its answer
abbrev pub Entry : Type 0
Entry = EntryWith Metadata FilterMap

-- the store without its extensions
abbrev pub bare : Store → Store
bare s = record s { extensions = empty }

-- a span is opened under an id other than 0 that was never issued, with the parent that it gets by
-- what it asks for
pub record Opening (lane : Lane) (span : AskedSpan) (id : Id) (s t : Store) : Type 0 where
  pub parent : Option ℕ
  pub chosen : IsParentFor s lane span.parent parent
  pub other : ¬ (number_of id ≡ 0)
  pub fresh : contains s.issued (number_of id) ≡ false
  pub store : t ≡ record s {
    spans = insert s.spans (number_of id) (begun span parent);
    issued = add s.issued (number_of id);
  }

-- a handle is taken from an open span, and what closes by that is taken out; the answer is whether
-- the span is among it
pub record Dropping (id : Id) (closes : Bool) (s t : Store) : Type 0 where
  pub held : IsHeld s.spans (number_of id)
  pub closed : List ℕ
  pub exact : Closes s.spans (number_of id) closed
  pub itself : IsTrue closes ↔ Member (number_of id) closed
  pub store : t ≡ record s { spans = remove_all (take_handle s.spans (number_of id)) closed }

-- the entry may happen in the first store, and leaves the second
abbrev pub Happens : Store → Entry → Store → Type 0
Happens s (New lane m asked verdict id) t =
    Opening lane (record { metadata = m; parent = asked; verdict = verdict }) id s t
Happens s (Unmade lane m) t = t ≡ s
Happens s (Event lane m asked made) t = t ≡ s
Happens s (Probe lane m said) t = t ≡ s
Happens s (Enter lane id) t = IsOpen s.spans (number_of id) × (t ≡ entered s lane.0 (number_of id))
Happens s (Exit lane id) t = t ≡ exited s lane.0 (number_of id)
Happens s (Record lane id) t = IsOpen s.spans (number_of id) × (t ≡ s)
Happens s (Follows lane id other) t = IsOpen s.spans (number_of id) × (t ≡ s)
Happens s (Clone lane id) t =
    IsOpen s.spans (number_of id) × (t ≡ record s { spans = add_handle s.spans (number_of id) })
Happens s (Drop lane id closes) t = Dropping id closes s t
Happens s (Reload lane number level) t = t ≡ s
Happens s (Current lane o) t = IsCurrent s lane.0 (option_map number_of o) × (t ≡ s)

-- from the empty store on, each entry of a journal may happen in the store that those before it
-- leave; all of them leave this store, extensions aside
abbrev pub Leaves : List Entry → Store → Type 0
Leaves journal s = FoldsTo Happens empty_store journal (bare s)

-- a journal leaves no two stores, extensions aside
abbrev pub LeavesOne : List Entry → Type 0
LeavesOne journal = (s t : Store) → Leaves journal s → Leaves journal t → bare s ≡ bare t

-- a journal is legal, as one thread could have made it: it leaves some store
abbrev pub IsLegal : List Entry → Type 0
IsLegal journal = (s : Store) × Leaves journal s

-- what holds of a logged dispatcher between its calls: it may be called, its journal leaves its
-- store, and no span is closing
pub record KeepsJournal {S : Type 0} (registry : S → RegistryState) (usable : S → Type 0)
    (d : Dispatch S) (journal : List Entry) : Type 0 where
  pub may : usable (stack_of d)
  pub leaves : Leaves journal (registry (stack_of d)).store
  pub settled : HasNoClosing (registry (stack_of d)).store.spans

-- an entry, and its place in a journal
pub record Placed : Type 0 where
  pub place : ℕ
  pub entry : Entry

-- the entry stands at its place in the journal
abbrev pub Stands : List Entry → Placed → Type 0
Stands journal p = slice_get journal p.place ≡ Some p.entry

-- whether the entry stands at its place in the journal, by an equality that is decided: one that
-- doesn't see where the texts of metadata lie
abbrev pub holds_by : (Option Entry → Option Entry → Bool) → List Entry → Placed → Bool
holds_by eq journal p = eq (slice_get journal p.place) (Some p.entry)

-- a dispatcher with its journal
pub record LoggedState (D : Type 0) : Type 0 where
  pub dispatch : D
  pub journal : List Entry

-- this entry was appended to the journal, and the receipt is of it
pub record Adds (e : Entry) (old : List Entry) (receipt : Placed) (new : List Entry) : Type 0 where
  pub shown : receipt ≡ record { place = length old; entry = e }
  pub journal : new ≡ old ++ e ∷ []
