-- Points in Chrome's trace format, which Perfetto opens.
use Rattle.std.specs.Prelude.{◌≡◌, ◌==◌, ◌&&◌, ◌-◌, ℕ, Bool, false, if◌then◌else◌, not, List, [], ◌∷◌, ◌++◌, Option, None, Some, codes, count_by, decimal, filter, flat_map, fold, map, reverse, pos, slice_get, unwrap_or}
use Rattle.std.specs.Float.Ieee
use Rattle.std.specs.Float.{binary64}
use Rattle.std.specs.List.{list_any}
use Rattle.std.specs.Option.{option_and_then, option_map, option_map_or, option_to_list}
use Rattle.std.specs.Str.{bytes_eq}
use Rattle.serde_json.specs.Data.{Data, Items, Members, array, no_members, null, number, object, put, string}
use Rattle.serde_json.specs.Find.{as_str, get, of_float}
use Rattle.serde_json.specs.View.{items_of}
use Rattle.span_core.specs.Span.{number_of}
use Rattle.span_export.specs.Entry.{is_into, is_of, lasting, since_newest, since_oldest, spans_on}
use Rattle.span_export.specs.Json.{object_of, whole}
use Rattle.span_export.specs.Site.{Named, called, event_named, named_in, targeted}
use Rattle.span_export.specs.Value.{value_data}
use Rattle.span_export.specs.declared.entry.Entry.{Entry}
use Rattle.span_times.specs.Field.{FieldSaid}
use Rattle.span_times.specs.Measure.{count_in, is_close, is_event, is_opening}
use Rattle.span_times.specs.declared.happening.Happening.TheVariants.{Closed, Entered, Left, Opened, Sent}
use Rattle.span_times.specs.declared.happening.Happening.{Happening}
use Rattle.span_times.specs.declared.happening.Point.{Point}
use Rattle.span_times.specs.declared.kept.Table.{Table}

-- when a trace begins: with its first point
abbrev pub begin_of : List Point → ℕ
begin_of ps = option_map_or (λ p. p.time) (slice_get ps 0) 0

-- when a point is, in nanoseconds since its trace began; a point before that is at 0
abbrev pub time_in : ℕ → Point → ℕ
time_in begin p = p.time - begin

-- nanoseconds as microseconds: a thousandth of the nearest float, as floats divide
abbrev pub micros : ℕ → Data
micros time =
    unwrap_or
    (option_map number (of_float (Ieee.div binary64 (Ieee.of_int binary64 (pos time))
    (Ieee.of_int binary64 (pos 1000)))))
    null

-- the members that the trace events of spans and events have: a phase, a name, a category, when,
-- and which lane
abbrev pub head : List ℕ → Named → ℕ → ℕ → List (List ℕ × Data)
head phase site lane time =
    (codes "ph", string phase) ∷ (codes "name", string (called site))
    ∷ (codes "cat", string (targeted site)) ∷ (codes "ts", micros time)
    ∷ (codes "pid", whole 1) ∷ (codes "tid", whole lane) ∷ []

-- these members, and fields by their names
abbrev pub with_fields : List FieldSaid → Members → Members
with_fields [] ms = ms
with_fields (f ∷ fs) ms = with_fields fs (put f.0 (value_data f.1) ms)

-- fields by their names
abbrev pub args_of : List FieldSaid → Data
args_of fs = object (with_fields fs no_members)

-- the trace event of a span in a phase with which something begins, with what the span was given
abbrev pub begin_event : List ℕ → Named → ℕ → ℕ → ℕ → Data
begin_event phase site x lane time =
    object_of ((codes "args", args_of site.given) ∷ (codes "id", string (decimal x))
    ∷ head phase site lane time)

-- the trace event of a span in a phase with which something ends
abbrev pub end_event : List ℕ → Named → ℕ → ℕ → ℕ → Data
end_event phase site x lane time =
    object_of ((codes "id", string (decimal x)) ∷ head phase site lane time)

-- that of an event: an instant of its lane, with what it was given
abbrev pub instant : Named → ℕ → ℕ → Data
instant site lane time =
    object_of ((codes "args", args_of site.given) ∷ (codes "s", string (codes "t"))
    ∷ head (codes "i") site lane time)

-- the one by which viewers call a lane so
abbrev pub lane_named : ℕ → Data
lane_named lane =
    object_of ((codes "ph", string (codes "M")) ∷ (codes "name", string (codes "thread_name"))
    ∷ (codes "pid", whole 1) ∷ (codes "tid", whole lane)
    ∷ (codes "args", object_of ((codes "name", string (codes "lane " ++ decimal lane)) ∷ [])) ∷ [])

-- on a lane the box of a span begins or ends
pub data Change : Type 0 where
  Begins : ℕ → ℕ → Change
  Ends : ℕ → ℕ → Change

-- on a lane the boxes of these spans end, the newest first, and those but for this span's begin
-- again
abbrev pub redrawn : ℕ → ℕ → List ℕ → List Change
redrawn x lane spans =
    map (Ends lane) (reverse spans) ++ map (Begins lane) (filter (λ y. not (y == x)) spans)

-- the lanes that are in a span, each once
abbrev pub lanes_in : ℕ → List Entry → List ℕ
lanes_in x [] = []
lanes_in x (e ∷ es) =
    if is_into x e && not (list_any (is_of e.lane.0 x) es) then e.lane.0 ∷ lanes_in x es
    else lanes_in x es

-- a lane leaves a span: the boxes end up to that of its newest entry into it
abbrev pub left_on : ℕ → List Entry → ℕ → List Change
left_on x es lane = redrawn x lane (spans_on lane (since_newest lane x es))

-- a span closes: a lane's boxes end up to that of its oldest entry into it
abbrev pub closed_on : ℕ → List Entry → ℕ → List Change
closed_on x es lane = redrawn x lane (spans_on lane (since_oldest lane x es))

-- what changes with a point, where these entries last before it
abbrev pub changes : List Entry → Point → Happening → List Change
changes es p (Entered id) = Begins p.lane.0 (number_of id) ∷ []
changes es p (Left id) = left_on (number_of id) es p.lane.0
changes es p (Closed id) = flat_map (closed_on (number_of id) es) (lanes_in (number_of id) es)
changes es p other = []

-- the trace event of a change, by what spans are called
abbrev pub change_event : (ℕ → Named) → ℕ → Change → Data
change_event named time (Begins lane x) = begin_event (codes "B") (named x) x lane time
change_event named time (Ends lane x) = end_event (codes "E") (named x) x lane time

-- the trace event of a point itself, where an event of this callsite would be called so: a span
-- begins with its opening and ends with its close, which is another duration than those of lanes
abbrev pub own_event : (ℕ → Named) → (ℕ → Named) → ℕ → ℕ → Happening → Option Data
own_event event named lane time (Opened id callsite parent) =
    Some (begin_event (codes "b") (named (number_of id)) (number_of id) lane time)
own_event event named lane time (Closed id) =
    Some (end_event (codes "e") (named (number_of id)) (number_of id) lane time)
own_event event named lane time (Sent callsite parent) =
    Some (instant (event callsite) lane time)
own_event event named lane time other = None

-- the name of a lane, unless it has one
abbrev pub naming : Bool → ℕ → List Data
naming known lane = if known then [] else lane_named lane ∷ []

-- some of these points is of this lane
abbrev pub is_known : List Point → ℕ → Bool
is_known ps lane = list_any (λ p. p.lane.0 == lane) ps

-- the trace events of a point, where these entries last before it: what changes, and its own
abbrev pub events_at : Table → (ℕ → Named) → List Entry → ℕ → Point → List Data
events_at table named es time p =
    map (change_event named time) (changes es p p.what)
    ++ option_to_list (own_event (event_named table p) named p.lane.0 time p.what)

-- the trace events of points, in their order; the others stand before them. The first point of a
-- lane names it
abbrev pub events_from : Table → (ℕ → Named) → ℕ → List Point → List Point → List Data
events_from table named begin before [] = []
events_from table named begin before (p ∷ rest) =
    naming (is_known before p.lane.0) p.lane.0
    ++ events_at table named (lasting before) (time_in begin p) p
    ++ events_from table named begin (before ++ p ∷ []) rest

-- the trace events of points, with this table, in a trace that began at this time
abbrev pub events_since : Table → ℕ → List Point → List Data
events_since table begin ps = events_from table (named_in table ps) begin [] ps

-- the trace events of points, with this table, in a trace that begins with the first
abbrev pub events_of : Table → List Point → List Data
events_of table ps = events_since table (begin_of ps) ps

-- a trace of such events
abbrev pub trace_with : Items → Data
trace_with events = object_of ((codes "traceEvents", array events) ∷ [])

-- a trace: the trace events of points, in their order
abbrev pub trace_of : Table → List Point → Data
trace_of table ps = trace_with (items_of (events_of table ps))

-- a trace event has this phase
abbrev pub has_phase : List ℕ → Data → Bool
has_phase phase d =
    option_map_or (bytes_eq phase) (option_and_then as_str (get (codes "ph") d)) false

-- how many trace events of points have this phase
abbrev pub count_phase : List ℕ → Table → List Point → ℕ
count_phase phase table ps = count_by (has_phase phase) (events_of table ps)

-- whatever the table is, as many durations of spans begin and end as there are openings and closes,
-- and there are as many instants as events
pub record CountsAll (table : Table) (ps : List Point) : Type 0 where
  pub openings : count_phase (codes "b") table ps ≡ count_in is_opening ps
  pub closes : count_phase (codes "e") table ps ≡ count_in is_close ps
  pub events : count_phase (codes "i") table ps ≡ count_in is_event ps

-- the trace of any points counts all: what begins and ends, and events
abbrev pub TracesCountAll : Type 0
TracesCountAll = (table : Table) (ps : List Point) → CountsAll table ps

-- all changes with points, in their order; the others stand before them
abbrev pub changes_from : List Point → List Point → List Change
changes_from before [] = []
changes_from before (p ∷ rest) =
    changes (lasting before) p p.what ++ changes_from (before ++ p ∷ []) rest

-- a box ends: it has to be the newest
abbrev pub without_box : ℕ → List ℕ → Option (List ℕ)
without_box x [] = None
without_box x (y ∷ boxes) = if y == x then Some boxes else None

-- the boxes of a lane after a change, by nesting, the newest first
abbrev pub boxes_after : ℕ → Option (List ℕ) → Change → Option (List ℕ)
boxes_after lane boxes (Begins other x) =
    if other == lane then option_map (λ ys. x ∷ ys) boxes else boxes
boxes_after lane boxes (Ends other x) =
    if other == lane then option_and_then (without_box x) boxes else boxes

-- each end is that of the newest box of its lane, and the boxes that are open after points are
-- those of the spans that the lane is in
abbrev pub TracesNest : Type 0
TracesNest =
    (ps : List Point) (lane : ℕ)
    → fold (boxes_after lane) (Some []) (changes_from [] ps)
    ≡ Some (reverse (spans_on lane (lasting ps)))
