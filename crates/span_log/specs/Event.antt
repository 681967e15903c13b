-- A record of `log` as an event.
use Rattle.std.specs.Prelude.{◌≡◌, ℕ, ◌+◌, ◌-◌, ◌^◌, List, [], ◌∷◌, Option, Some, IfSome, codes, map}
use Rattle.log.specs.Level.{level_rank}
use Rattle.log.specs.Record.{metadata_level, metadata_target, record_args, record_key_values, record_metadata}
use Rattle.log.specs.declared.level.Level.{Level as LogLevel}
use Rattle.log.specs.declared.record.Metadata.{Metadata as LogMetadata}
use Rattle.log.specs.declared.record.Record.{Record}
use Rattle.span_core.specs.Event.{event_metadata, event_parent, event_values}
use Rattle.span_core.specs.Field.{value_text}
use Rattle.span_core.specs.Metadata.{callsite_of, fields_of, kind_of, level_of, name_of, names_of, target_of}
use Rattle.span_core.specs.declared.event.Event.{Event}
use Rattle.span_core.specs.declared.field.FieldValue.{FieldValue}
use Rattle.span_core.specs.declared.metadata.Metadata.{Metadata}
use Rattle.span_core.specs.declared.metadata.TheConstants.Kind.{EVENT}
use Rattle.span_core.specs.declared.span.Parent.TheVariants.{Contextual}
use Rattle.span_log.specs.Fields.{fields_in, pairs_of, texts_of}
use Rattle.span_log.specs.Level.{SameLevel}
use Rattle.span_log.specs.Record.{IsRecordOf}
use Rattle.span_log.specs.declared.fields.Fields.{Fields}

-- the metadata of all records at one level
pub record IsMetadataFor (rank : LogLevel) (m : Metadata) : Type 0 where
  pub callsite : callsite_of m ≡ 2 ^ 64 - 6 + level_rank rank
  pub name : name_of m ≡ codes "log event"
  pub target : target_of m ≡ codes "log"
  pub level : SameLevel rank (level_of m)
  pub kind : kind_of m ≡ EVENT
  pub fields : map (λ name. name.now) (names_of (fields_of m))
      ≡ codes "message" ∷ codes "log.target" ∷ []

-- the event of a record with these metadata whose message writes this text, if that is known: in
-- the span that the lane is in, with the message and the target as fields
pub record IsEventOf (of : LogMetadata) (text : Option (List ℕ)) (e : Event) : Type 0 where
  pub message : List ℕ
  pub written : IfSome text (λ known. message ≡ known)
  pub metadata : IsMetadataFor (metadata_level of) (event_metadata e)
  pub fields : texts_of (event_values e) ≡ (codes "message", Some message)
      ∷ (codes "log.target", Some (metadata_target of)) ∷ []
  pub parent : event_parent e ≡ Contextual

-- a record of this level and target, with this text for its message, if that is known, and no pairs
pub record IsSameRecord (of : LogMetadata) (text : Option (List ℕ))
    (r : Record FieldValue Fields Unit) : Type 0 where
  pub level : metadata_level (record_metadata r) ≡ metadata_level of
  pub target : metadata_target (record_metadata r) ≡ metadata_target of
  pub message : IfSome text (λ known. value_text (record_args r) ≡ known)
  pub pairs : pairs_of (fields_in (record_key_values r)) ≡ []

-- the record of a record's event has its level, target and message again, and no pairs
abbrev pub RecordsComeBack : Type 0
RecordsComeBack =
    (of : LogMetadata) (text : Option (List ℕ)) (e : Event) (r : Record FieldValue Fields Unit)
    → IsEventOf of text e → IsRecordOf e r → IsSameRecord of text r
