-- How deep a trace for Perfetto nests.
use Rattle.std.proofs.Common.{arith, ◌≤◌, ◌+◌, ℕ, Bool, true, false, List, [], ◌∷◌, ◌++◌, Some, None, codes, decimal, if◌then◌else◌, map}
use Rattle.std.specs.Float.Ieee
use Rattle.std.specs.Float.{Float, binary64, float_is_finite}
use Rattle.std.specs.Option.{option_map, option_to_list}
use Rattle.std.specs.Prelude.{pos, unwrap_or}
use Rattle.serde_json.specs.Data.{Members, Num, array, depth, float, items_depth, members_depth, no_members, null, number, put, string}
use Rattle.serde_json.specs.View.{items_of}
use Rattle.span_core.specs.Span.{number_of}
use Rattle.span_export.proofs.CallerLemmas.{AreWithin, joined_within, mapped_within, number_flat, object_within, put_depth}
use Rattle.span_export.specs.Chrome.{Change, args_of, begin_event, begin_of, change_event, changes, end_event, events_at, events_from, events_of, head, instant}
use Rattle.span_export.specs.Chrome.{is_known, lane_named, micros, naming, own_event, time_in, trace_of, with_fields}
use Rattle.span_export.specs.Chrome.Change.{Begins, Ends}
use Rattle.span_export.specs.Entry.{lasting}
use Rattle.span_export.specs.Json.{object_of, whole}
use Rattle.span_export.specs.Site.{Named, event_named, named_in}
use Rattle.span_export.specs.Value.{value_data}
use Rattle.span_times.specs.Field.{FieldSaid, Said}
use Rattle.span_times.specs.Field.Said.{Flag, Real, Signed, Whole, Wide, WideSigned, Words}
use Rattle.serde_json.specs.Find.{of_float}
use Rattle.span_export.specs.declared.entry.Entry.{Entry}
use Rattle.span_times.specs.declared.happening.Happening.TheVariants.{Closed, Entered, Followed, Left, Opened, Recorded, Renamed, Sent}
use Rattle.span_times.specs.declared.happening.Happening.{Happening}
use Rattle.span_times.specs.declared.happening.Point.{Point}
use Rattle.span_times.specs.declared.kept.Table.{Table}

-- a value is flat
value_flat : (s : Said) → depth (value_data s) ≤ 0
value_flat (Whole n) = omega arith
value_flat (Signed n) = omega arith
value_flat (Wide n) = omega arith
value_flat (WideSigned n) = omega arith
value_flat (Real x text) = number_flat _ _ _
value_flat (Flag b) = omega arith
value_flat (Words text) = omega arith

fields_flat : (fs : List FieldSaid) (ms : Members) → members_depth ms ≤ 0 → members_depth (with_fields fs ms) ≤ 0
fields_flat [] ms flat = flat
fields_flat (f ∷ fs) ms flat = fields_flat fs (put f.0 (value_data f.1) ms) (put_depth f.0 (value_data f.1) ms 0 (value_flat f.1) flat)

args_flat : (fs : List FieldSaid) → depth (args_of fs) ≤ 1
args_flat fs = omega (arith, fields_flat fs no_members (omega arith))

micros_flat : (b : Bool) (x : Num) → depth (unwrap_or (option_map number (if b then Some x else None)) null) ≤ 0
micros_flat true x = omega arith
micros_flat false x = omega arith

float_flat : (x : Float) → depth (unwrap_or (option_map number (of_float x)) null) ≤ 0
float_flat x = micros_flat (float_is_finite x) (float x)

time_flat : (time : ℕ) → depth (micros time) ≤ 1
time_flat time = omega (arith, float_flat (Ieee.div binary64 (Ieee.of_int binary64 (pos time)) (Ieee.of_int binary64 (pos 1000))))

head_flat : (phase : List ℕ) (name : Named) (lane time : ℕ) → AreWithin 1 (head phase name lane time)
head_flat phase name lane time = (omega arith, (omega arith, (omega arith, (time_flat time, (omega arith, (omega arith, tt))))))

begin_flat : (phase : List ℕ) (name : Named) (x lane time : ℕ) → depth (begin_event phase name x lane time) ≤ 2
begin_flat phase name x lane time =
    object_within 1 ((codes "args", args_of name.given) ∷ (codes "id", string (decimal x)) ∷ head phase name lane time)
    (args_flat name.given, (omega arith, head_flat phase name lane time))

end_flat : (phase : List ℕ) (name : Named) (x lane time : ℕ) → depth (end_event phase name x lane time) ≤ 2
end_flat phase name x lane time =
    object_within 1 ((codes "id", string (decimal x)) ∷ head phase name lane time) (omega arith, head_flat phase name lane time)

instant_flat : (name : Named) (lane time : ℕ) → depth (instant name lane time) ≤ 2
instant_flat name lane time =
    object_within 1 ((codes "args", args_of name.given) ∷ (codes "s", string (codes "t")) ∷ head (codes "i") name lane time)
    (args_flat name.given, (omega arith, head_flat (codes "i") name lane time))

lane_flat : (lane : ℕ) → depth (lane_named lane) ≤ 2
lane_flat lane =
    let args = object_within 0 ((codes "name", string (codes "lane " ++ decimal lane)) ∷ []) (omega arith, tt) in
    object_within 1 ((codes "ph", string (codes "M"))
    ∷ (codes "name", string (codes "thread_name")) ∷ (codes "pid", whole 1) ∷ (codes "tid", whole lane)
    ∷ (codes "args", object_of ((codes "name", string (codes "lane " ++ decimal lane)) ∷ [])) ∷ [])
    (omega arith, (omega arith, (omega arith, (omega arith, (omega (arith, args), tt)))))

change_flat : (named : ℕ → Named) (time : ℕ) (c : Change) → depth (change_event named time c) ≤ 2
change_flat named time (Begins lane x) = begin_flat (codes "B") (named x) x lane time
change_flat named time (Ends lane x) = end_flat (codes "E") (named x) x lane time

own_flat : (event named : ℕ → Named) (lane time : ℕ) (what : Happening)
    → items_depth (items_of (option_to_list (own_event event named lane time what))) ≤ 2
own_flat event named lane time (Opened id callsite parent) = omega (arith, begin_flat (codes "b") (named (number_of id)) (number_of id) lane time)
own_flat event named lane time (Closed id) = omega (arith, end_flat (codes "e") (named (number_of id)) (number_of id) lane time)
own_flat event named lane time (Sent callsite parent) = omega (arith, instant_flat (event callsite) lane time)
own_flat event named lane time (Entered id) = omega arith
own_flat event named lane time (Left id) = omega arith
own_flat event named lane time (Recorded id) = omega arith
own_flat event named lane time (Followed id other) = omega arith
own_flat event named lane time (Renamed id other) = omega arith

naming_flat : (known : Bool) (lane : ℕ) → items_depth (items_of (naming known lane)) ≤ 2
naming_flat true lane = omega arith
naming_flat false lane = omega (arith, lane_flat lane)

point_flat : (table : Table) (named : ℕ → Named) (es : List Entry) (time : ℕ) (p : Point)
    → items_depth (items_of (events_at table named es time p)) ≤ 2
point_flat table named es time p =
    joined_within 2 (map (change_event named time) (changes es p p.what)) (option_to_list (own_event (event_named table p) named p.lane.0 time p.what))
    (mapped_within 2 (change_event named time) (change_flat named time) (changes es p p.what)) (own_flat (event_named table p) named p.lane.0 time p.what)

pub all_flat : (table : Table) (named : ℕ → Named) (begin : ℕ) (before ps : List Point)
    → items_depth (items_of (events_from table named begin before ps)) ≤ 2
all_flat table named begin before [] = omega arith
all_flat table named begin before (p ∷ ps) =
    let name = naming (is_known before p.lane.0) p.lane.0 in
    let here = events_at table named (lasting before) (time_in begin p) p in
    joined_within 2 (name ++ here) (events_from table named begin (before ++ p ∷ []) ps)
    (joined_within 2 name here (naming_flat (is_known before p.lane.0) p.lane.0) (point_flat table named (lasting before) (time_in begin p) p))
    (all_flat table named begin (before ++ p ∷ []) ps)

-- a trace nests four deep
pub trace_depth : (table : Table) (ps : List Point) → depth (trace_of table ps) ≤ 127
trace_depth table ps =
    let events = all_flat table (named_in table ps) (begin_of ps) [] ps in
    omega (arith, object_within 3 ((codes "traceEvents", array (items_of (events_of table ps))) ∷ []) (omega (arith, events), tt))
