-- Attributes of what is known.
use Rattle.std.specs.Prelude.{if◌then◌else◌, List, [], ◌∷◌}
use Rattle.serde_json.specs.Data.{Data}
use Rattle.span_otlp.specs.Attribute.{attribute_of}
use Rattle.span_export.specs.Site.{is_given}
use Rattle.span_times.specs.Field.{FieldSaid}

-- a field that is known, unless one with that name was given
abbrev pub own_attribute : List FieldSaid → FieldSaid → List Data
own_attribute given f = if is_given f.0 given then [] else attribute_of f ∷ []
