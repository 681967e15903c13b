-- What ids, attributes, recorded values and a current span show.
use Rattle.std.specs.Prelude.{ℕ, List, Option, Some, None}
use Rattle.std.specs.Borrow.{Bor}
use Rattle.span_core.specs.declared.field.FieldValue.{FieldValue}
use Rattle.span_core.specs.declared.metadata.Metadata.{Metadata}
use Rattle.span_core.specs.declared.span.Attributes.{Attributes}
use Rattle.span_core.specs.declared.span.Current.{Current}
use Rattle.span_core.specs.declared.span.Id.{Id}
use Rattle.span_core.specs.declared.span.Parent.{Parent}
use Rattle.span_core.specs.declared.span.Parent.TheVariants.{Root, Contextual, Explicit}
use Rattle.span_core.specs.declared.span.Record.{Record}

-- the number of an id
abbrev pub number_of : Id → ℕ
number_of id = id.number

-- the id with this number
abbrev pub id_of : ℕ → Id
id_of n = record { number = n }

-- a new span of these parts
abbrev pub attributes_of : Metadata → Bor (List (Bor (List ℕ) × FieldValue)) → Parent → Attributes
attributes_of m values p = record { metadata = m; values = values; parent = p }

-- the metadata of a new span
abbrev pub metadata_of : Attributes → Metadata
metadata_of a = a.metadata

-- the values of a new span, by the names of its fields
abbrev pub values_of : Attributes → List (Bor (List ℕ) × FieldValue)
values_of a = a.values.now

-- the parent that a new span asks for
abbrev pub asked_parent : Attributes → Parent
asked_parent a = a.parent

-- the span that is asked for by its id, if one is
abbrev pub explicit_parent : Parent → Option Id
explicit_parent Root = None
explicit_parent Contextual = None
explicit_parent (Explicit id) = Some id

-- a record of these values
abbrev pub record_of : Bor (List (Bor (List ℕ) × FieldValue)) → Record
record_of values = record { recorded = values }

-- the values of a record
abbrev pub recorded_values : Record → List (Bor (List ℕ) × FieldValue)
recorded_values r = r.recorded.now

-- the span that the lane is in, with its metadata
abbrev pub current_span : Current → Option (Id × Metadata)
current_span c = c.span
