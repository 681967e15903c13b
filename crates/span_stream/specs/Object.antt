-- Objects in JSON of events and spans.
use Rattle.std.specs.Prelude.{ℕ, List, [], ◌∷◌, codes}
use Rattle.std.specs.Borrow.{Bor}
use Rattle.serde_json.specs.Data.{Data, Members, array, no_members, number, object, put, string, unsigned}
use Rattle.serde_json.specs.View.{items_of}
use Rattle.span_core.specs.Event.{event_metadata, event_values}
use Rattle.span_core.specs.Level.{level_text}
use Rattle.span_core.specs.Metadata.{level_of, name_of, target_of}
use Rattle.span_core.specs.declared.event.Event.{Event}
use Rattle.span_core.specs.declared.field.FieldValue.{FieldValue}
use Rattle.span_core.specs.declared.metadata.Metadata.{Metadata}
use Rattle.span_stream.specs.Values.{with_values}

-- an event's fields: its name as the message, and its values; a value called so stands in its place
abbrev pub fields_data : List ℕ → List (Bor (List ℕ) × FieldValue) → Data
fields_data name values =
    object (with_values values (put (codes "message") (string name) no_members))

-- an event's time, level, target and fields
abbrev pub plain_members : List ℕ → Metadata → List (Bor (List ℕ) × FieldValue) → Members
plain_members stamp m values =
    put (codes "fields") (fields_data (name_of m) values)
    (put (codes "target") (string (target_of m))
    (put (codes "level") (string (level_text (level_of m)))
    (put (codes "timestamp") (string stamp) no_members)))

-- these members, and of a lane that has a name its number and name
abbrev pub with_lane : ℕ → List ℕ → Members → Members
with_lane lane [] ms = ms
with_lane lane (b ∷ name) ms =
    put (codes "threadName") (string (b ∷ name))
    (put (codes "threadId") (number (unsigned lane)) ms)

-- the last of these
abbrev pub last_of : Data → List Data → Data
last_of d [] = d
last_of d (e ∷ es) = last_of e es

-- these members, and the innermost span and all spans, where there is one
abbrev pub with_spans : List Data → Members → Members
with_spans [] ms = ms
with_spans (d ∷ ds) ms =
    put (codes "spans") (array (items_of (d ∷ ds))) (put (codes "span") (last_of d ds) ms)

-- the object of an event on a lane with this number and name, in these spans
abbrev pub event_data : List ℕ → Event → ℕ → List ℕ → List Data → Data
event_data stamp e lane name spans =
    object (with_spans spans (with_lane lane name
    (plain_members stamp (event_metadata e) (event_values e))))

-- the object of a span: its values, and its name in the place of a value called `name`
abbrev pub span_data : List ℕ → Members → Data
span_data name ms = object (put (codes "name") (string name) ms)
