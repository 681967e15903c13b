-- What a timeline keeps of what it is notified of.
use Rattle.std.specs.Prelude.{◌≡◌, ℕ, Bool, true, false, List, [], ◌∷◌, ◌++◌, Option, None, Some, map}
use Rattle.std.specs.Borrow.{Bor}
use Rattle.std.specs.Option.{option_and_then, option_map}
use Rattle.span_core.specs.Event.{event_metadata, event_parent, event_values}
use Rattle.span_core.specs.Metadata.{callsite_of}
use Rattle.span_core.specs.Span.{id_of, metadata_of, number_of, recorded_values, values_of}
use Rattle.span_core.specs.declared.field.FieldValue.{FieldValue}
use Rattle.span_core.specs.declared.metadata.Metadata.{Metadata}
use Rattle.span_core.specs.declared.span.Id.{Id}
use Rattle.span_core.specs.declared.span.Parent.{Parent}
use Rattle.span_layers.specs.Observe.{ObserverSteps}
use Rattle.span_registry.specs.Behaviour.{Notice, OnClose, OnEnter, OnEvent, OnExit, OnFollows, OnIdChange, OnNewSpan, OnRecord}
use Rattle.span_registry.specs.View.{View, event_shown, parent_shown, plain_view, shown}
use Rattle.span_times.specs.Clock.{NeverGoBack, Reads}
use Rattle.span_times.specs.Field.{FieldSaid, given_by, kept_in}
use Rattle.span_times.specs.Finished.{HandsOutFinished}
use Rattle.span_times.specs.Kept.{IsFull, KeepsNone, KeepsPoint, KeptState, NeedsNone, point_at}
use Rattle.span_times.specs.Site.{SiteSaid, sites_said}
use Rattle.span_times.specs.declared.field.FieldRange.{FieldRange}
use Rattle.span_times.specs.declared.happening.Happening.TheVariants.{Closed, Entered, Followed, Left, Opened, Recorded, Renamed, Sent}
use Rattle.span_times.specs.declared.happening.Happening.{Happening}
use Rattle.span_times.specs.declared.happening.Point.{Point}
use Rattle.span_times.specs.declared.kept.Taken.{Taken}
use Rattle.span_times.specs.declared.timeline.Timeline.{Timeline}

-- the parent of a span that a view shows: the nearest span above it that isn't hidden
abbrev pub parent_found : ℕ → View → Option Id
parent_found x v = option_map id_of (option_and_then (parent_shown v.spans) (shown x v))

-- the span of an event that asks for this one, as a view shows it
abbrev pub span_found : Parent → View → Option Id
span_found asked v = option_map id_of (event_shown asked v)

-- what happens by a notice, in what a view shows
abbrev pub happening_of : Notice → View → Happening
happening_of (OnNewSpan attrs id) v =
    Opened id (callsite_of (metadata_of attrs)) (parent_found (number_of id) v)
happening_of (OnRecord id values) v = Recorded id
happening_of (OnFollows id other) v = Followed id other
happening_of (OnEvent e) v =
    Sent (callsite_of (event_metadata e)) (span_found (event_parent e) v)
happening_of (OnEnter id) v = Entered id
happening_of (OnExit id) v = Left id
happening_of (OnIdChange id other) v = Renamed id other
happening_of (OnClose id) v = Closed id

-- the values that a notice comes with: those of a new span, of a record or of an event
abbrev pub values_in : Notice → List (Bor (List ℕ) × FieldValue)
values_in (OnNewSpan attrs id) = values_of attrs
values_in (OnRecord id values) = recorded_values values
values_in (OnEvent e) = event_values e
values_in other = []

-- the metadata of the callsite that a notice comes from, where it is a new span or an event
abbrev pub metadata_in : Notice → Option Metadata
metadata_in (OnNewSpan attrs id) = Some (metadata_of attrs)
metadata_in (OnEvent e) = Some (event_metadata e)
metadata_in other = None

-- the fields that are kept of a notice, where values are kept
abbrev pub fields_kept : Bool → Notice → List FieldSaid
fields_kept keeps e = given_by keeps (values_in e)

-- the point of a notice on a lane at a time, in what a view shows, with the fields in this range
abbrev pub point_of : ℕ → ℕ → Notice → View → FieldRange → Point
point_of time lane e v fields = point_at time lane (happening_of e v) fields

-- what a timeline keeps
abbrev pub kept_of : {C : Type 0} → Timeline C → KeptState
kept_of x = x.kept

-- the points that it keeps
abbrev pub points_of : {C : Type 0} → Timeline C → List Point
points_of x = (kept_of x).points

-- what it keeps of their callsites
abbrev pub sites_of : {C : Type 0} → Timeline C → List SiteSaid
sites_of x = (kept_of x).sites

-- the fields that it keeps with them
abbrev pub fields_of : {C : Type 0} → Timeline C → List FieldSaid
fields_of x = (kept_of x).fields

-- whether it keeps values
abbrev pub keeps_values : {C : Type 0} → Timeline C → Bool
keeps_values x = x.values

-- whether a timeline found no memory for a point
abbrev pub has_failed : {C : Type 0} → Timeline C → Bool
has_failed x = x.failed

-- the clock of a timeline
abbrev pub clock_of : {C : Type 0} → Timeline C → C
clock_of x = x.clock

-- the points of a timeline never go back in time, and none is after its clock's latest reading
abbrev pub IsInOrder : {C : Type 0} → (C → ℕ) → Timeline C → Type 0
IsInOrder latest x = NeverGoBack 0 (map (λ p. p.time) (points_of x) ++ latest (clock_of x) ∷ [])

-- A timeline is notified in a view: it reads its clock once, and appends the point of that reading,
-- with the fields of the notice if it keeps values, and keeps the site of the callsite, unless
-- memory is refused or was before. It fails first only where its list is full, or a field or a site
-- is to be kept.
pub record Traces {C : Type 0} (latest : C → ℕ) (gives : C → ℕ → C → Type 0) (x : Timeline C)
    (e : Notice) (lane : ℕ) (v : View) (y : Timeline C) : Type 0 where
  pub time : ℕ
  pub read : Reads latest gives (clock_of x) time (clock_of y)
  pub kept : has_failed y ≡ false
      → (has_failed x ≡ false)
      × KeepsPoint time lane (happening_of e v) (metadata_in e) (fields_kept (keeps_values x) e)
      (kept_of x) (kept_of y)
  pub lost : has_failed y ≡ true → KeepsNone (kept_of x) (kept_of y)
  pub full : has_failed x ≡ false → has_failed y ≡ true
      → NeedsNone (metadata_in e) (fields_kept (keeps_values x) e) (kept_of x)
      → IsFull (kept_of x)
  pub values : keeps_values y ≡ keeps_values x

-- a timeline keeps the point of a notice in what its context shows, extensions aside, and leaves
-- the registry unchanged
abbrev pub timeline_steps : {C : Type 0} → (C → ℕ) → (C → ℕ → C → Type 0)
    → ObserverSteps (Timeline C)
timeline_steps latest gives x e lane under v y w =
    Traces latest gives x e lane (plain_view v.store lane under) y × (w ≡ v)

-- a timeline that was notified of nothing yet, on this clock: it has no points, and keeps no values
pub record IsNew {C : Type 0} (latest : C → ℕ) (own : C) (x : Timeline C) : Type 0 where
  pub points : points_of x ≡ []
  pub sites : sites_of x ≡ []
  pub fields : fields_of x ≡ []
  pub values : keeps_values x ≡ false
  pub failed : has_failed x ≡ false
  pub clock : clock_of x ≡ own
  pub order : IsInOrder latest x

-- the second timeline is the first, but for whether it keeps values
pub record SetsValues {C : Type 0} (keeps : Bool) (x y : Timeline C) : Type 0 where
  pub kept : kept_of y ≡ kept_of x
  pub values : keeps_values y ≡ keeps
  pub failed : has_failed y ≡ has_failed x
  pub clock : clock_of y ≡ clock_of x

-- all is taken out, and the timeline begins anew on its clock
pub record TakesAll {C : Type 0} (latest : C → ℕ) (taken : Taken) (x y : Timeline C) : Type 0 where
  pub points : taken.points.items ≡ points_of x
  pub sites : sites_said taken.sites.items ≡ sites_of x
  pub fields : kept_in taken.fields.items ≡ fields_of x
  pub above : taken.above.items ≡ []
  pub no_points : points_of y ≡ []
  pub no_sites : sites_of y ≡ []
  pub no_fields : fields_of y ≡ []
  pub values : keeps_values y ≡ keeps_values x
  pub failed : has_failed y ≡ false
  pub clock : clock_of y ≡ clock_of x
  pub order : IsInOrder latest y

-- what is over is taken out, and the timeline goes on with the rest; points that were in order stay
-- so
pub record TakesFinished {C : Type 0} (latest : C → ℕ) (taken : Taken) (x y : Timeline C)
    : Type 0 where
  pub split : HandsOutFinished taken (kept_of x) (kept_of y)
  pub values : keeps_values y ≡ keeps_values x
  pub failed : has_failed y ≡ has_failed x
  pub clock : clock_of y ≡ clock_of x
  pub order : IsInOrder latest x → IsInOrder latest y
