-- An event as a record of `log`.
use Rattle.std.specs.Prelude.{◌≡◌, ℕ, List, Option, bytes_eq, codes, find, option_map}
use Rattle.std.specs.Borrow.{Bor}
use Rattle.std.specs.Option.{option_and_then, option_map_or}
use Rattle.log.specs.Record.{metadata_level, metadata_target, record_args, record_key_values, record_metadata}
use Rattle.log.specs.declared.record.Record.{Record}
use Rattle.span_core.specs.Event.{event_metadata, event_values}
use Rattle.span_core.specs.Field.{present, value_text}
use Rattle.span_core.specs.Metadata.{level_of, name_of, target_of}
use Rattle.span_core.specs.declared.event.Event.{Event}
use Rattle.span_core.specs.declared.field.FieldValue.{FieldValue}
use Rattle.span_log.specs.Fields.{fields_in, text_in}
use Rattle.span_log.specs.Level.{SameLevel}
use Rattle.span_log.specs.declared.fields.Fields.{Fields}

-- the value of the first field with this name that has one
abbrev pub value_under : List (Bor (List ℕ) × FieldValue) → List ℕ → Option FieldValue
value_under values name =
    option_map (λ field. field.1) (find (λ field. bytes_eq field.0.now name) (present values))

-- what an event says: the text of its field `message`, or else its name
abbrev pub message_of : Event → List ℕ
message_of e =
    option_map_or value_text (value_under (event_values e) (codes "message"))
    (name_of (event_metadata e))

-- where an event comes from: the text in its field `log.target`, or else its target
abbrev pub origin_of : Event → List ℕ
origin_of e =
    option_map_or (λ text. text)
    (option_and_then text_in (value_under (event_values e) (codes "log.target")))
    (target_of (event_metadata e))

-- the record has the event's level, says what it says, comes from where it does, and has its other
-- fields as pairs
pub record IsRecordOf (e : Event) (r : Record FieldValue Fields Unit) : Type 0 where
  pub level : SameLevel (metadata_level (record_metadata r)) (level_of (event_metadata e))
  pub target : metadata_target (record_metadata r) ≡ origin_of e
  pub message : value_text (record_args r) ≡ message_of e
  pub fields : fields_in (record_key_values r) ≡ event_values e
