-- Attributes of OpenTelemetry: what is known by a name.
use Rattle.std.specs.Prelude.{List, [], ◌∷◌, ◌++◌, codes, filter, map, not}
use Rattle.serde_json.specs.Data.{Data, array, string}
use Rattle.serde_json.specs.View.{items_of}
use Rattle.span_export.specs.Json.{object_of}
use Rattle.span_export.specs.Site.{is_given}
use Rattle.span_otlp.specs.Value.{typed_data}
use Rattle.span_times.specs.Field.{FieldSaid}

-- a field as an attribute
abbrev pub attribute_of : FieldSaid → Data
attribute_of f = object_of ((codes "key", string f.0) ∷ (codes "value", typed_data f.1) ∷ [])

-- those of these fields whose names weren't given
abbrev pub not_given : List FieldSaid → List FieldSaid → List FieldSaid
not_given given fs = filter (λ f. not (is_given f.0 given)) fs

-- the attributes of something of which these are known, and which was given the others: what was
-- given counts, where the names agree
abbrev pub attributes_of : List FieldSaid → List FieldSaid → Data
attributes_of known given = array (items_of (map attribute_of (not_given given known ++ given)))
