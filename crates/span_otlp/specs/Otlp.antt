-- Points as OpenTelemetry's spans, in its JSON.
use Rattle.std.specs.Prelude.{◌≡◌, ◌+◌, ◌==◌, ◌&&◌, ℕ, Bool, false, if◌then◌else◌, List, [], ◌∷◌, ◌++◌, Option, None, Some, codes, decimal, filter_map, map}
use Rattle.std.specs.Int.{to_be_bytes, w128, w64}
use Rattle.std.specs.List.{cons_option, list_any}
use Rattle.std.specs.Option.{option_map_or}
use Rattle.hex.specs.Hex.{encode_lower}
use Rattle.serde_json.specs.Data.{Data, array, object, string}
use Rattle.serde_json.specs.View.{items_of}
use Rattle.span_core.specs.Level.{level_number}
use Rattle.span_core.specs.Span.{number_of}
use Rattle.span_core.specs.declared.span.Id.{Id}
use Rattle.span_times.specs.Field.Said.{Whole, Words}
use Rattle.span_times.specs.Field.{FieldSaid}
use Rattle.span_times.specs.Measure.{busy_in, capped, idle_in, since_opening}
use Rattle.span_times.specs.declared.happening.Happening.TheVariants.{Closed, Followed, Opened, Sent}
use Rattle.span_times.specs.declared.happening.Happening.{Happening}
use Rattle.span_times.specs.declared.happening.Point.{Point}
use Rattle.span_times.specs.declared.kept.Table.{Table}
use Rattle.span_otlp.specs.Attribute.{attributes_of}
use Rattle.span_otlp.specs.Batch.{request_value}
use Rattle.span_otlp.specs.Dropped.{dropped_by, missing, with_dropped}
use Rattle.span_otlp.specs.Root.{known_of, root_in}
pub use Rattle.span_export.specs.Json.{AllMean}
use Rattle.span_export.specs.Json.{members, object_of, whole}
use Rattle.span_export.specs.Site.{Named, called, event_named, leveled, named_in, site_numbered, targeted}
use Rattle.span_times.specs.declared.site.Site.{Site}
use Rattle.span_otlp.specs.declared.batch.Signal.TheVariants.{Spans}
use Rattle.span_otlp.specs.declared.otlp.Closed.{Closed as ClosedSpan}
use Rattle.span_otlp.specs.declared.otlp.Trace.{Trace}

-- the number of a trace as 32 hex digits
abbrev pub trace_id : ℕ → List ℕ
trace_id n = encode_lower (to_be_bytes w128 n)

-- the number of a span as 16 hex digits, and none where there is no span
abbrev pub span_id : Option ℕ → List ℕ
span_id number = option_map_or (λ n. encode_lower (to_be_bytes w64 n)) number []

-- what is known of a span or an event of this lane beside what it was given
abbrev pub event_known : Named → ℕ → List FieldSaid
event_known site lane =
    (codes "level", Words (leveled site)) ∷ (codes "target", Words (targeted site))
    ∷ (codes "thread.id", Whole lane) ∷ []

-- and of a span that was busy and idle for so long
abbrev pub span_known : Named → ℕ → ℕ → ℕ → List FieldSaid
span_known site lane busy idle =
    event_known site lane ++ (codes "busy_ns", Whole busy) ∷ (codes "idle_ns", Whole idle) ∷ []

-- a time of points as nanoseconds since 1970, which are a text
abbrev pub nanos : Trace → ℕ → Data
nanos trace time = string (decimal (capped (trace.began + time)))

-- an event is in a span, if that is the one that was found for it
abbrev pub is_in : Id → Option Id → Bool
is_in id found = option_map_or (λ span. number_of span == number_of id) found false

-- an event of a span
abbrev pub event_value : Trace → Table → Named → Point → Data
event_value trace table site p =
    object (with_dropped (missing table p) (members ((codes "timeUnixNano", nanos trace p.time)
    ∷ (codes "name", string (called site))
    ∷ (codes "attributes", attributes_of (event_known site p.lane.0) site.given) ∷ [])))

-- the event of a point, if it is an event of this span
abbrev pub event_of : Trace → Table → Id → Point → Happening → Option Data
event_of trace table id p (Sent callsite found) =
    if is_in id found then Some (event_value trace table (event_named table p callsite) p)
    else None
event_of trace table id p other = None

-- the events of a span among these points
abbrev pub events_of : Trace → Table → Id → List Point → List Data
events_of trace table id since = filter_map (λ p. event_of trace table id p p.what) since

-- a link to a span, by the traces of spans
abbrev pub link_value : (ℕ → ℕ) → Id → Data
link_value traces from =
    object_of ((codes "traceId", string (trace_id (traces (number_of from))))
    ∷ (codes "spanId", string (span_id (Some (number_of from)))) ∷ [])

-- the link of what happened, if this span follows from another by it
abbrev pub link_of : (ℕ → ℕ) → Id → Happening → Option Data
link_of traces id (Followed span from) =
    if number_of span == number_of id then Some (link_value traces from) else None
link_of traces id other = None

-- the links of a span among these points, to the spans that it follows from
abbrev pub links_of : (ℕ → ℕ) → Id → List Point → List Data
links_of traces id since = filter_map (λ p. link_of traces id p.what) since

-- a site has the level ERROR
abbrev pub is_of_errors : Option Site → Bool
is_of_errors site = option_map_or (λ s. level_number s.level == 1) site false

-- something that happened is an event of this span, of level ERROR
abbrev pub is_failure : List Site → Id → Happening → Bool
is_failure sites id (Sent callsite found) =
    is_in id found && is_of_errors (site_numbered sites callsite)
is_failure sites id other = false

-- one of these points is an event of this span, of level ERROR
abbrev pub has_error : List Site → Id → List Point → Bool
has_error sites id ps = list_any (λ p. is_failure sites id p.what) ps

-- what became of a span: an error, or nothing that is known
abbrev pub status_value : Bool → Data
status_value failed = object_of (if failed then ((codes "code", whole 2) ∷ []) else [])

-- the number of the parent of a span that is opened so: the trace's where the points have none
abbrev pub parent_of : Trace → Happening → Option ℕ
parent_of trace (Opened id callsite (Some parent)) = Some (number_of parent)
parent_of trace other = trace.parent

-- which span it is, of which trace, and when it opened and closed
abbrev pub span_head : Trace → (ℕ → ℕ) → ClosedSpan → List (List ℕ × Data)
span_head trace traces span =
    (codes "traceId", string (trace_id (traces (number_of span.id))))
    ∷ (codes "spanId", string (span_id (Some (number_of span.id))))
    ∷ (codes "parentSpanId", string (span_id (parent_of trace span.opening.what)))
    ∷ (codes "kind", whole 1) ∷ (codes "startTimeUnixNano", nanos trace span.opening.time)
    ∷ (codes "endTimeUnixNano", nanos trace span.close.time) ∷ []

-- a span that closed, of which these are the points from its opening to its close, by the traces of
-- spans
abbrev pub span_value : Trace → (ℕ → ℕ) → Table → Named → ClosedSpan → List Point → Data
span_value trace traces table site span life =
    let x = number_of span.id in
    let known = span_known site span.opening.lane.0 (busy_in life x) (idle_in life x) in
    object (with_dropped (dropped_by table x life)
    (members ((codes "status", status_value (has_error table.sites.now span.id life))
    ∷ (codes "links", array (items_of (links_of traces span.id life)))
    ∷ (codes "events", array (items_of (events_of trace table span.id life)))
    ∷ (codes "attributes", attributes_of known site.given)
    ∷ (codes "name", string (called site)) ∷ span_head trace traces span)))

-- the span that closes at this point, if these are the points from its opening up to there
abbrev pub span_of
    : Trace → (ℕ → ℕ) → Table → Named → Id → Point → List Point → Option Data
span_of trace traces table site id close [] = None
span_of trace traces table site id close (opening ∷ since) =
    let span : ClosedSpan = record { id = id; opening = opening; close = close } in
    Some (span_value trace traces table site span (opening ∷ since))

-- the span that closes at this point, the last of these, if one does that one of these opens, by
-- what spans are called
abbrev pub span_at : Trace → (ℕ → ℕ) → Table → (ℕ → Named) → List Point → Point → Happening
    → Option Data
span_at trace traces table named ps p (Closed id) =
    span_of trace traces table (named (number_of id)) id p (since_opening (number_of id) ps)
span_at trace traces table named ps p other = None

-- the spans that close at these points, behind those before them
abbrev pub spans_from
    : Trace → (ℕ → ℕ) → Table → (ℕ → Named) → List Point → List Point → List Data
spans_from trace traces table named before [] = []
spans_from trace traces table named before (p ∷ rest) =
    cons_option (span_at trace traces table named (before ++ p ∷ []) p p.what)
    (spans_from trace traces table named (before ++ p ∷ []) rest)

-- the spans that close, in the order of the closes, with this table, each in the trace that its
-- root has
abbrev pub spans_in : Trace → (ℕ → ℕ) → Table → List Point → List Data
spans_in trace trace_of table ps =
    spans_from trace (λ x. trace_of (root_in (known_of table ps) x)) table (named_in table ps) [] ps

-- the spans that close, all in the trace with its number
abbrev pub spans_of : Trace → Table → List Point → List Data
spans_of trace table ps = spans_in trace (λ root. trace.id) table ps

-- a request for each span that closes, in the order of the closes
abbrev pub requests_of : Trace → Table → List Point → List Data
requests_of trace table ps =
    map (λ span. request_value Spans trace (span ∷ [])) (spans_of trace table ps)
