-- Spans that close: one by one, and how deep they and requests nest.
use Rattle.std.proofs.Common.{arith, ◌≡◌, ◌≤◌, ◌∙◌, ◌<◌, ◌+◌, ◌==◌, ℕ, List, [], ◌∷◌, ◌++◌, Option, None, Some, ap, append_assoc, codes, drop, get_or}
use Rattle.std.proofs.Common.{if◌then◌else◌}
use Rattle.std.proofs.Common.{length, map, refl, string_bytes, subst, sym, take, true, false, Bool, nat_lt, decimal, ◌^◌}
use Rattle.std.specs.Float.{float_is_finite}
use Rattle.std.specs.Fmt.{signed_decimal}
use Rattle.std.specs.List.{AllByRecursion, cons_option}
use Rattle.std.specs.Option.{option_map, option_to_list}
use Rattle.std.proofs.lemmas.List.{drop_more, map-append, take_more}
use Rattle.serde_json.specs.Data.{Data, array, boolean, depth, float, items_depth, string}
use Rattle.serde_json.specs.Read.{max_depth}
use Rattle.serde_json.specs.View.{items_of, view}
use Rattle.serde_json.specs.declared.value.Value.{Value}
use Rattle.span_core.specs.Span.{number_of}
use Rattle.span_core.specs.declared.span.Id.{Id}
use Rattle.span_times.specs.declared.happening.Happening.TheVariants.{Closed, Entered, Followed, Left, Opened, Recorded, Renamed, Sent}
use Rattle.span_times.specs.declared.happening.Happening.{Happening}
use Rattle.span_times.specs.declared.happening.Point.{Point}
use Rattle.span_export.proofs.CallerLemmas.{joined_within, mapped_within, number_flat, object_within}
use Rattle.span_export.specs.Value.{number_or}
use Rattle.span_otlp.proofs.Depth.{dropped_within, items_within}
use Rattle.span_otlp.specs.Attribute.{attribute_of, attributes_of, not_given}
use Rattle.span_otlp.specs.Batch.{known_attribute, only, request_under, request_value, resource_attributes, resource_value, scope_value}
use Rattle.span_otlp.specs.Dropped.{dropped_by, missing}
use Rattle.span_times.specs.Measure.{busy_in, idle_in, since_opening}
use Rattle.span_export.specs.Json.{object_of, whole}
use Rattle.span_otlp.specs.Otlp.{event_known, event_of, event_value, events_of, has_error, is_in, link_of, link_value, links_of, nanos}
use Rattle.span_otlp.specs.Otlp.{span_at, span_head, span_id, span_known, span_of, span_value, spans_from, status_value, trace_id}
use Rattle.span_export.specs.Site.{Named, called, event_named}
use Rattle.span_otlp.specs.Value.{proto_name, typed, typed_data}
use Rattle.span_otlp.specs.private.Sent.{IsWithin}
use Rattle.span_otlp.specs.declared.batch.Signal.TheVariants.{Logs, Spans}
use Rattle.span_otlp.specs.declared.batch.Signal.{Signal}
use Rattle.span_otlp.specs.declared.otlp.Closed.{Closed as ClosedSpan}
use Rattle.span_otlp.specs.declared.otlp.Trace.{Trace}
use Rattle.span_times.specs.Field.{FieldSaid, Said}
use Rattle.span_times.specs.Field.Said.{Flag, Real, Signed, Whole, Wide, WideSigned, Words}
use Rattle.span_times.specs.declared.kept.Table.{Table}

in_front : (o : Option Data) (ds : List Data) → cons_option o ds ≡ option_to_list o ++ ds
in_front None ds = refl
in_front (Some d) ds = refl

-- one more point is looked at, and the span that closes there, if one does, is put behind the others
pub span_more : (trace : Trace) (traces : ℕ → ℕ) (table : Table)
    (named : ℕ → Named) (all : List Point) (i : ℕ) (d : Point) (old : List Data) (o : Option Data) (whole : List Data)
    → i < length all → o ≡ span_at trace traces table named (take (i + 1) all) (get_or all i d) (get_or all i d).what
    → old ++ spans_from trace traces table named (take i all) (drop i all) ≡ whole
    → (old ++ option_to_list o) ++ spans_from trace traces table named (take (i + 1) all) (drop (i + 1) all) ≡ whole
span_more trace traces table named all i d old o whole within due so_far =
    let before = take i all in
    let point = get_or all i d in
    let rest = spans_from trace traces table named (before ++ point ∷ []) (drop (i + 1) all) in
    let here : option_to_list o ++ rest ≡ spans_from trace traces table named before (drop i all) =
    sym (in_front o rest) ∙ ap (λ r. cons_option r rest) (due ∙ ap (λ ps. span_at trace traces table named ps point point.what) (take_more all i d within))
    ∙ sym (ap (spans_from trace traces table named before) (drop_more all i d within)) in
    ap (λ b. (old ++ option_to_list o) ++ spans_from trace traces table named b (drop (i + 1) all)) (take_more all i d within)
    ∙ append_assoc old (option_to_list o) rest ∙ ap (λ ds. old ++ ds) here ∙ so_far

one_typed : (key : List ℕ) (d : Data) → depth d ≤ 0 → depth (typed key d) ≤ 1
one_typed key d flat = object_within 0 ((key, d) ∷ []) (flat, tt)

whole_typed : (b : Bool) (d : Data) → depth d ≤ 0 → depth (if b then typed (codes "intValue") d else typed (codes "stringValue") d) ≤ 1
whole_typed true d flat = one_typed (codes "intValue") d flat
whole_typed false d flat = one_typed (codes "stringValue") d flat

-- a value with its type
pub typed_depth : (s : Said) → depth (typed_data s) ≤ 1
typed_depth (Whole n) = whole_typed (nat_lt n (2 ^ 63)) (string (decimal n)) (omega arith)
typed_depth (Signed n) = one_typed (codes "intValue") (string (signed_decimal n)) (omega arith)
typed_depth (Wide n) = one_typed (codes "stringValue") (string (decimal n)) (omega arith)
typed_depth (WideSigned n) = one_typed (codes "stringValue") (string (signed_decimal n)) (omega arith)
typed_depth (Real x text) = one_typed (codes "doubleValue") (number_or (proto_name text) x) (number_flat (float_is_finite x) (float x) (proto_name text))
typed_depth (Flag b) = one_typed (codes "boolValue") (boolean b) (omega arith)
typed_depth (Words text) = one_typed (codes "stringValue") (string text) (omega arith)

attribute_depth : (f : FieldSaid) → depth (attribute_of f) ≤ 2
attribute_depth f = object_within 1 ((codes "key", string f.0) ∷ (codes "value", typed_data f.1) ∷ []) (omega arith, (typed_depth f.1, tt))

-- attributes
pub attributes_depth : (known given : List FieldSaid) → depth (attributes_of known given) ≤ 3
attributes_depth known given = omega (arith, mapped_within 2 attribute_of attribute_depth (not_given given known ++ given))

only_depth : (d : Data) (n : ℕ) → depth d ≤ n → depth (only d) ≤ n + 1
only_depth d n h = omega (arith, h)

event_depth : (trace : Trace) (table : Table) (name : Named) (p : Point) → depth (event_value trace table name p) ≤ 4
event_depth trace table name p =
    dropped_within (missing table p) 3 ((codes "timeUnixNano", nanos trace p.time)
    ∷ (codes "name", string (called name)) ∷ (codes "attributes", attributes_of (event_known name p.lane.0) name.given) ∷ [])
    (omega arith, (omega arith, (attributes_depth (event_known name p.lane.0) name.given, tt)))

event_within : (b : Bool) (trace : Trace) (table : Table) (name : Named) (p : Point) → IsWithin 4 (if b then Some (event_value trace table name p) else None)
event_within true trace table name p = event_depth trace table name p
event_within false trace table name p = tt

one_event : (trace : Trace) (table : Table) (id : Id) (p : Point) (what : Happening) → IsWithin 4 (event_of trace table id p what)
one_event trace table id p (Sent callsite found) = event_within (is_in id found) trace table (event_named table p callsite) p
one_event trace table id p (Entered x) = tt
one_event trace table id p (Left x) = tt
one_event trace table id p (Opened x callsite parent) = tt
one_event trace table id p (Closed x) = tt
one_event trace table id p (Recorded x) = tt
one_event trace table id p (Followed x other) = tt
one_event trace table id p (Renamed x other) = tt

status_depth : (failed : Bool) → depth (status_value failed) ≤ 1
status_depth true = object_within 0 ((codes "code", whole 2) ∷ []) (omega arith, tt)
status_depth false = omega arith

link_depth : (traces : ℕ → ℕ) (from : Id) → depth (link_value traces from) ≤ 1
link_depth traces from =
    object_within 0 ((codes "traceId", string (trace_id (traces (number_of from)))) ∷ (codes "spanId", string (span_id (Some (number_of from)))) ∷ [])
    (omega arith, (omega arith, tt))

link_within : (b : Bool) (traces : ℕ → ℕ) (from : Id) → IsWithin 1 (if b then Some (link_value traces from) else None)
link_within true traces from = link_depth traces from
link_within false traces from = tt

one_link : (traces : ℕ → ℕ) (id : Id) (what : Happening) → IsWithin 1 (link_of traces id what)
one_link traces id (Followed span from) = link_within (number_of span == number_of id) traces from
one_link traces id (Sent callsite found) = tt
one_link traces id (Entered x) = tt
one_link traces id (Left x) = tt
one_link traces id (Opened x callsite parent) = tt
one_link traces id (Closed x) = tt
one_link traces id (Recorded x) = tt
one_link traces id (Renamed x other) = tt

links_depth : (traces : ℕ → ℕ) (id : Id) (since : List Point) → depth (array (items_of (links_of traces id since))) ≤ 2
links_depth traces id since = omega (arith, items_within 1 (λ p. link_of traces id p.what) (λ p. one_link traces id p.what) since)

events_depth : (trace : Trace) (table : Table) (id : Id) (since : List Point) → depth (array (items_of (events_of trace table id since))) ≤ 5
events_depth trace table id since =
    omega (arith, items_within 4 (λ p. event_of trace table id p p.what) (λ p. one_event trace table id p p.what) since)

span_depth : (trace : Trace) (traces : ℕ → ℕ) (table : Table) (name : Named) (span : ClosedSpan) (life : List Point)
    → depth (span_value trace traces table name span life) ≤ 6
span_depth trace traces table name span life =
    let x = number_of span.id in
    let known = span_known name span.opening.lane.0 (busy_in life x) (idle_in life x) in
    dropped_within (dropped_by table x life) 5 ((codes "status", status_value (has_error table.sites.now span.id life))
    ∷ (codes "links", array (items_of (links_of traces span.id life))) ∷ (codes "events", array (items_of (events_of trace table span.id life)))
    ∷ (codes "attributes", attributes_of known name.given) ∷ (codes "name", string (called name)) ∷ span_head trace traces span) (
      omega (arith, status_depth (has_error table.sites.now span.id life)),
      (
        omega (arith, links_depth traces span.id life),
        (
          events_depth trace table span.id life,
          (
            omega (arith, attributes_depth known name.given),
            (omega arith, (omega arith, (omega arith, (omega arith, (omega arith, (omega arith, (omega arith, tt))))))),
          ),
        ),
      ),
    )

resource_depth : (trace : Trace) → depth (resource_value trace) ≤ 4
resource_depth trace =
    let service = attribute_of (codes "service.name", Words (string_bytes trace.service)) in
    let all = map known_attribute trace.attributes.items in
    let first : items_depth (items_of (service ∷ [])) ≤ 2 = omega (arith, attribute_depth (codes "service.name", Words (string_bytes trace.service))) in
    let rest : items_depth (items_of all) ≤ 2 =
    mapped_within 2 known_attribute (λ a. attribute_depth (string_bytes a.0, Words (string_bytes a.1))) trace.attributes.items in
    object_within 3 ((codes "attributes", array (items_of (resource_attributes trace))) ∷ []) (omega (arith, joined_within 2 (service ∷ []) all first rest), tt)

values_within : (n : ℕ) (ds : List Data) → AllByRecursion (λ d. depth d ≤ n) ds → items_depth (items_of ds) ≤ n
values_within n [] h = omega arith
values_within n (d ∷ ds) h = omega (arith, h.0, values_within n ds h.1)

under_depth : (resources scopes items : List ℕ) (trace : Trace) (ds : List Data)
    → AllByRecursion (λ d. depth d ≤ 6) ds → depth (request_under resources scopes items trace ds) ≤ 127
under_depth resources scopes items trace ds h =
    let values : depth (array (items_of ds)) ≤ 7 = omega (arith, values_within 6 ds h) in
    let made = scope_value trace.scope in
    let flat : depth made ≤ 1 = object_within 0 ((codes "name", string (string_bytes trace.scope.name))
    ∷ (codes "version", string (string_bytes trace.scope.version)) ∷ []) (omega arith, (omega arith, tt)) in
    let scope = object_of ((codes "scope", made) ∷ (items, array (items_of ds)) ∷ []) in
    let one : depth scope ≤ 8 = object_within 7 ((codes "scope", made) ∷ (items, array (items_of ds)) ∷ []) (omega (arith, flat), (values, tt)) in
    let two : depth (only scope) ≤ 9 = only_depth scope 8 one in
    let both = object_of ((codes "resource", resource_value trace) ∷ (scopes, only scope) ∷ []) in
    let three : depth both ≤ 10 = object_within 9 ((codes "resource", resource_value trace) ∷ (scopes, only scope) ∷ [])
    (omega (arith, resource_depth trace), (two, tt)) in
    let four : depth (only both) ≤ 11 = only_depth both 10 three in
    let five : depth (object_of ((resources, only both) ∷ [])) ≤ 12 = object_within 11 ((resources, only both) ∷ []) (four, tt) in
    omega arith

-- a request can be read back
pub request_depth : (signal : Signal) (trace : Trace) (ds : List Data)
    → AllByRecursion (λ d. depth d ≤ 6) ds → depth (request_value signal trace ds) ≤ 127
request_depth Spans trace ds h = under_depth (codes "resourceSpans") (codes "scopeSpans") (codes "spans") trace ds h
request_depth Logs trace ds h = under_depth (codes "resourceLogs") (codes "scopeLogs") (codes "logRecords") trace ds h

closed_depth : (trace : Trace) (traces : ℕ → ℕ) (table : Table) (name : Named) (id : Id) (close : Point) (since : List Point)
    → IsWithin 6 (span_of trace traces table name id close since)
closed_depth trace traces table name id close [] = tt
closed_depth trace traces table name id close (opening ∷ since) =
    let span : ClosedSpan = record { id = id; opening = opening; close = close } in span_depth trace traces table name span (opening ∷ since)

point_depth : (trace : Trace) (traces : ℕ → ℕ) (table : Table) (named : ℕ → Named) (before : List Point) (p : Point) (what : Happening)
    → IsWithin 6 (span_at trace traces table named before p what)
point_depth trace traces table named before p (Closed id) = closed_depth trace traces table (named (number_of id)) id p (since_opening (number_of id) before)
point_depth trace traces table named before p (Sent callsite parent) = tt
point_depth trace traces table named before p (Entered x) = tt
point_depth trace traces table named before p (Left x) = tt
point_depth trace traces table named before p (Opened x callsite parent) = tt
point_depth trace traces table named before p (Recorded x) = tt
point_depth trace traces table named before p (Followed x other) = tt
point_depth trace traces table named before p (Renamed x other) = tt

-- a span is flat enough for a request
pub due_depth : (trace : Trace) (traces : ℕ → ℕ) (table : Table) (named : ℕ → Named) (all : List Point) (i : ℕ) (d : Point) (o : Option Data)
    → o ≡ span_at trace traces table named (take (i + 1) all) (get_or all i d) (get_or all i d).what → IsWithin 6 o
due_depth trace traces table named all i d o e =
    subst (IsWithin 6) (sym e) (point_depth trace traces table named (take (i + 1) all) (get_or all i d) (get_or all i d).what)
