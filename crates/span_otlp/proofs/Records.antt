-- How deep log records nest.
use Rattle.std.proofs.Common.{arith, ◌≡◌, ◌≤◌, ◌+◌, [], ◌∷◌, None, Option, Some, codes, subst, sym}
use Rattle.serde_json.specs.Data.{Data, depth, string}
use Rattle.span_export.specs.Json.{whole}
use Rattle.span_export.specs.Site.{Named, called, event_named, leveled}
use Rattle.span_otlp.proofs.Depth.{dropped_within}
use Rattle.span_otlp.proofs.Requests.{attributes_depth, typed_depth}
use Rattle.span_otlp.specs.Attribute.{attributes_of}
use Rattle.span_otlp.specs.Dropped.{missing}
use Rattle.span_otlp.specs.LogRecord.{record_known, record_of, record_value, severity}
use Rattle.span_otlp.specs.Otlp.{nanos}
use Rattle.span_otlp.specs.Value.{typed_data}
use Rattle.span_otlp.specs.declared.otlp.Trace.{Trace}
use Rattle.span_otlp.specs.private.Sent.{IsWithin}
use Rattle.span_times.specs.Field.Said.{Words}
use Rattle.span_times.specs.declared.happening.Happening.TheVariants.{Closed, Entered, Followed, Left, Opened, Recorded, Renamed, Sent}
use Rattle.span_times.specs.declared.happening.Happening.{Happening}
use Rattle.span_times.specs.declared.happening.Point.{Point}
use Rattle.span_times.specs.declared.kept.Table.{Table}

record_depth : (trace : Trace) (table : Table) (name : Named) (p : Point) → depth (record_value trace table name p) ≤ 4
record_depth trace table name p =
    dropped_within (missing table p) 3 ((codes "timeUnixNano", nanos trace p.time)
    ∷ (codes "severityText", string (leveled name)) ∷ (codes "severityNumber", whole (severity name))
    ∷ (codes "body", typed_data (Words (called name))) ∷ (codes "attributes", attributes_of (record_known name p.lane.0) name.given) ∷ []) (
      omega arith,
      (omega arith, (omega arith, (omega (arith, typed_depth (Words (called name))), (attributes_depth (record_known name p.lane.0) name.given, tt)))),
    )

record_within : (trace : Trace) (table : Table) (p : Point) (what : Happening) → IsWithin 6 (record_of trace table p what)
record_within trace table p (Sent callsite None) = omega (arith, record_depth trace table (event_named table p callsite) p)
record_within trace table p (Sent callsite (Some span)) = tt
record_within trace table p (Entered x) = tt
record_within trace table p (Left x) = tt
record_within trace table p (Opened x callsite parent) = tt
record_within trace table p (Closed x) = tt
record_within trace table p (Recorded x) = tt
record_within trace table p (Followed x other) = tt
record_within trace table p (Renamed x other) = tt

-- a log record is flat enough for a request
pub made_within : (trace : Trace) (table : Table) (p : Point) (o : Option Data) → o ≡ record_of trace table p p.what → IsWithin 6 o
made_within trace table p o e = subst (IsWithin 6) (sym e) (record_within trace table p p.what)
