-- A layer that hands events to a logger.
use Rattle.std.specs.Prelude.{◌≡◌, ℕ, Bool, List, Option, IfSome, is_some}
use Rattle.log.specs.declared.level.Level.{Level as LogLevel}
use Rattle.log.specs.declared.record.Record.{Record}
use Rattle.span_core.specs.Event.{event_metadata}
use Rattle.span_core.specs.Metadata.{level_of}
use Rattle.span_core.specs.declared.event.Event.{Event}
use Rattle.span_core.specs.declared.field.FieldValue.{FieldValue}
use Rattle.span_layers.specs.Observe.{ObserverSteps}
use Rattle.span_log.specs.Level.{SameLevel}
use Rattle.span_log.specs.Record.{IsRecordOf, origin_of}
use Rattle.span_log.specs.declared.fields.Fields.{Fields}
use Rattle.span_log.specs.declared.layer.LogLayer.{LogLayer}

-- the logger of a layer
abbrev pub logger_of : {L : Type 0} → LogLayer L → L
logger_of x = x.log

-- whatever a layer is notified of, it and the registry are unchanged; what a logger does with a
-- record no clause can say
abbrev pub log_steps : {L : Type 0} → ObserverSteps (LogLayer L)
log_steps x e lane under v y w = (y ≡ x) × (w ≡ v)

-- what is given is an event's record, and it is given exactly where a logger that says what it is
-- enabled for is so at the event's level and at where it comes from
pub record IsWantedRecordOf (enables : LogLevel → List ℕ → Option Bool) (e : Event)
    (given : Option (Record FieldValue Fields Unit)) : Type 0 where
  pub of_event : IfSome given (IsRecordOf e)
  pub wanted : (rank : LogLevel) → SameLevel rank (level_of (event_metadata e))
      → IfSome (enables rank (origin_of e)) (λ enabled. is_some given ≡ enabled)
