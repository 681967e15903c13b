-- What an event shows.
use Rattle.std.specs.Prelude.{ℕ, List}
use Rattle.std.specs.Borrow.{Bor}
use Rattle.span_core.specs.declared.metadata.Metadata.{Metadata}
use Rattle.span_core.specs.declared.event.Event.{Event}
use Rattle.span_core.specs.declared.field.FieldValue.{FieldValue}
use Rattle.span_core.specs.declared.span.Parent.{Parent}

-- an event of these parts
abbrev pub event_of : Metadata → Bor (List (Bor (List ℕ) × FieldValue)) → Parent → Event
event_of m values p = record { metadata = m; values = values; parent = p }

-- the metadata of an event
abbrev pub event_metadata : Event → Metadata
event_metadata e = e.metadata

-- the values of an event, by the names of its fields
abbrev pub event_values : Event → List (Bor (List ℕ) × FieldValue)
event_values e = e.values.now

-- the parent that an event asks for
abbrev pub event_parent : Event → Parent
event_parent e = e.parent
