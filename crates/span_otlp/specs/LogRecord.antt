-- Events outside every span as OpenTelemetry's log records, in its JSON.
use Rattle.std.specs.Prelude.{◌==◌, ℕ, if◌then◌else◌, List, [], ◌∷◌, Option, None, Some, codes, filter_map, string_bytes}
use Rattle.std.specs.Option.{option_map_or}
use Rattle.serde_json.specs.Data.{Data, object, string}
use Rattle.span_core.specs.Level.{level_number}
use Rattle.span_core.specs.declared.level.Level.{Level}
use Rattle.span_export.specs.Json.{members, whole}
use Rattle.span_export.specs.Site.{Named, called, event_named, leveled, targeted}
use Rattle.span_otlp.specs.Attribute.{attributes_of}
use Rattle.span_otlp.specs.Dropped.{missing, with_dropped}
use Rattle.span_otlp.specs.Otlp.{nanos}
use Rattle.span_otlp.specs.Value.{typed_data}
use Rattle.span_otlp.specs.declared.otlp.Trace.{Trace}
use Rattle.span_times.specs.Field.Said.{Whole, Words}
use Rattle.span_times.specs.Field.{FieldSaid}
use Rattle.span_times.specs.declared.happening.Happening.TheVariants.{Sent}
use Rattle.span_times.specs.declared.happening.Happening.{Happening}
use Rattle.span_times.specs.declared.happening.Point.{Point}
use Rattle.span_times.specs.declared.kept.Table.{Table}
use Rattle.span_times.specs.declared.site.Site.{Site}

-- OpenTelemetry's number of a level's severity, by the level's number: that of ERROR, of WARN, of
-- INFO, of DEBUG, and of TRACE
abbrev pub severity_of : ℕ → ℕ
severity_of n =
    if n == 1 then 17
    else (if n == 2 then 13 else (if n == 3 then 9 else (if n == 4 then 5 else 1)))

-- the number of an event's severity, and 0, unspecified, where its level isn't known
abbrev pub severity : Named → ℕ
severity name = option_map_or (λ s. severity_of (level_number s.level)) name.site 0

-- what is known of an event of this lane beside its level and what it was given
abbrev pub record_known : Named → ℕ → List FieldSaid
record_known name lane =
    (codes "target", Words (targeted name)) ∷ (codes "thread.id", Whole lane) ∷ []

-- an event as a log record
abbrev pub record_value : Trace → Table → Named → Point → Data
record_value trace table name p =
    object (with_dropped (missing table p) (members ((codes "timeUnixNano", nanos trace p.time)
    ∷ (codes "severityText", string (leveled name))
    ∷ (codes "severityNumber", whole (severity name))
    ∷ (codes "body", typed_data (Words (called name)))
    ∷ (codes "attributes", attributes_of (record_known name p.lane.0) name.given) ∷ [])))

-- the log record of a point, if it is an event outside every span
abbrev pub record_of : Trace → Table → Point → Happening → Option Data
record_of trace table p (Sent callsite None) =
    Some (record_value trace table (event_named table p callsite) p)
record_of trace table p other = None

-- the log records of events outside every span, in order, with this table
abbrev pub records_of : Trace → Table → List Point → List Data
records_of trace table ps = filter_map (λ p. record_of trace table p p.what) ps
