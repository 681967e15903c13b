-- What the data of a span show.
use Rattle.std.specs.Prelude.{◌≡◌, ℕ, IfSome, Option}
use Rattle.std.specs.FinMap.{get}
use Rattle.std.specs.Option.{option_map}
use Rattle.span_core.specs.Span.{number_of}
use Rattle.span_core.specs.declared.span.Id.{Id}
use Rattle.span_extensions.specs.declared.extensions.ExtensionMap.{ExtensionMap}
use Rattle.span_store.specs.Store.{Span, Store}
use Rattle.span_store.specs.declared.span_data.Data.{Data}
use Rattle.span_store.specs.declared.span_record.SpanRecord.{SpanRecord}

-- the number of the parent
abbrev pub parent_in : SpanRecord → Option ℕ
parent_in r = option_map number_of r.parent

-- the span of a record
abbrev pub span_of : SpanRecord → Span
span_of r =
    record { metadata = r.metadata; parent = parent_in r; handles = r.handles; verdict = r.verdict }

-- the span's id
abbrev pub data_id : Data → Id
data_id d = d.id

-- what the store has of a span
abbrev pub data_span : Data → Span
data_span d = span_of d.record.now

-- the span's extensions
abbrev pub data_extensions : Data → ExtensionMap
data_extensions d = d.extensions.now

-- what is found is the data of a span, all that the store has of it; none where it isn't in the
-- store
pub record FindsData (s : Store) (id : Id) (found : Option Data) : Type 0 where
  pub span : option_map data_span found ≡ get s.spans (number_of id)
  pub extensions : option_map data_extensions found ≡ get s.extensions (number_of id)
  pub named : IfSome found (λ d. data_id d ≡ id)
