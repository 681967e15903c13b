-- What a timeline keeps of a list of requests that is served.
use Rattle.std.specs.Prelude.{◌≡◌, ◌+◌, ℕ, Bool, false, true, List, [], ◌∷◌, ◌++◌, flat_map, fold, length, take}
use Rattle.std.specs.List.{FoldsTo}
use Rattle.std.specs.declared.alloc.Global.{Global}
use Rattle.std.specs.declared.vec.Vec.{Vec}
use Rattle.span_core.specs.declared.error.TraceError.TheVariants.{OutOfMemory}
use Rattle.span_core.specs.declared.error.TraceError.{TraceError}
use Rattle.span_dispatch.specs.Alone.{passed_at}
use Rattle.span_dispatch.specs.Contract.{SubscriberOf}
use Rattle.span_dispatch.specs.Serve.{IsReadySomehow, Served, flat, stack_of}
use Rattle.span_dispatch.specs.declared.dispatch.Dispatch.{Dispatch}
use Rattle.span_dispatch.specs.declared.request.Answer.{Answer}
use Rattle.span_dispatch.specs.declared.request.Request.{Request}
use Rattle.span_layers.specs.Layer.{HearsBy}
use Rattle.span_stacks.specs.Layered.{outer_of}
use Rattle.span_layers.specs.Observe.{ObserverStep, observer_of}
use Rattle.span_stacks.specs.declared.layered.Layered.{Layered}
use Rattle.span_layers.specs.declared.observe.Observer.{Observer}
use Rattle.span_registry.specs.Position.{Heard, Here, Outer, Position}
use Rattle.span_times.specs.Clock.{NeverGoBack, Reads}
use Rattle.span_times.specs.Field.{FieldSaid, range_of}
use Rattle.span_times.specs.Kept.{KeepsNone}
use Rattle.span_times.specs.Timeline.{IsInOrder, clock_of, fields_kept, fields_of, has_failed, keeps_values, kept_of, metadata_in, point_of, points_of, sites_of, timeline_steps}
use Rattle.span_times.specs.Site.{SiteSaid, with_site}
use Rattle.span_times.specs.declared.happening.Point.{Point}
use Rattle.span_times.specs.declared.timeline.Timeline.{Timeline}

-- the points of what a timeline is notified of, each at its time and in what its context shows
-- then, with its fields behind this many others and those of the points before it
abbrev pub points_at : Bool → ℕ → List ℕ → Heard → List Point
points_at keeps from (time ∷ times) (told ∷ heard) =
    let count = length (fields_kept keeps told.notice) in
    point_of time told.lane told.notice told.view (range_of from count)
    ∷ points_at keeps (from + count) times heard
points_at keeps from times heard = []

-- the fields that are kept of what a timeline is notified of, where values are kept
abbrev pub fields_at : Bool → Heard → List FieldSaid
fields_at keeps heard = flat_map (λ told. fields_kept keeps told.notice) heard

-- the sites, and behind them those of the callsites of what a timeline is notified of, each once
abbrev pub sites_at : List SiteSaid → Heard → List SiteSaid
sites_at sites heard = fold (λ ss told. with_site (metadata_in told.notice) ss) sites heard

-- a timeline has the points, sites and fields of these, at these times, behind those that it had
pub record HasAllOf {C : Type 0} (times : List ℕ) (heard : Heard) (x y : Timeline C)
    : Type 0 where
  pub points : points_of y
      ≡ points_of x ++ points_at (keeps_values x) (length (fields_of x)) times heard
  pub sites : sites_of y ≡ sites_at (sites_of x) heard
  pub fields : fields_of y ≡ fields_of x ++ fields_at (keeps_values x) heard

-- a timeline has the points, sites and fields of the first so many of these alone
pub record HasSomeOf {C : Type 0} (times : List ℕ) (heard : Heard) (x y : Timeline C)
    : Type 0 where
  pub many : ℕ
  pub points : points_of y
      ≡ points_of x ++ take many (points_at (keeps_values x) (length (fields_of x)) times heard)
  pub sites : sites_of y ≡ sites_at (sites_of x) (take many heard)
  pub fields : fields_of y ≡ fields_of x ++ fields_at (keeps_values x) (take many heard)

-- A timeline is notified of all this: it reads its clock once for each, never going back, and
-- appends their points in order, with what their callsites are called, and the fields that they
-- came with, if it keeps values. Where it fails it has those of a beginning alone, and none where
-- it had failed before; points that were in order stay so.
pub record KeepsAll {C : Type 0} (latest : C → ℕ) (gives : C → ℕ → C → Type 0) (x : Timeline C)
    (heard : Heard) (y : Timeline C) : Type 0 where
  pub times : List ℕ
  pub one_each : length times ≡ length heard
  pub read : FoldsTo (Reads latest gives) (clock_of x) times (clock_of y)
  pub forward : NeverGoBack (latest (clock_of x)) times
  pub kept : has_failed y ≡ false
      → (has_failed x ≡ false) × HasAllOf times heard x y
  pub beginning : HasSomeOf times heard x y
  pub stays : has_failed x ≡ true → (has_failed y ≡ true) × KeepsNone (kept_of x) (kept_of y)
  pub values : keeps_values y ≡ keeps_values x
  pub order : IsInOrder latest x → IsInOrder latest y

-- a timeline in a stack is notified of these, as the stack says it: it goes through them by its own
-- step, one by one
abbrev pub TimelineHears : {C : Type 0} → (C → ℕ) → (C → ℕ → C → Type 0) → Observer (Timeline C)
    → Heard → Observer (Timeline C) → Type 0
TimelineHears latest gives x heard y =
    HearsBy (λ x p e lane under v y w.
    ObserverStep (timeline_steps latest gives) (observer_of x) p e lane under v (observer_of y) w) x
    Here heard y

-- each timeline keeps a point for all that it is notified of, unless it fails
abbrev pub TimelinesKeepAll : {C : Type 0} → (C → ℕ) → (C → ℕ → C → Type 0) → Type 0
TimelinesKeepAll {C} latest gives =
    (x y : Observer (Timeline C)) (heard : Heard) → TimelineHears latest gives x heard y
    → KeepsAll latest gives (observer_of x) heard (observer_of y)

-- a stack, and outside it a timeline
abbrev pub WithTimeline : Type 0 → Type 0 → Type 0
WithTimeline S C = Layered (Observer (Timeline C)) S

-- where the timeline stands
abbrev pub timeline_position : Position
timeline_position = Outer Here

-- the timeline in such a stack
abbrev pub timeline_in : {S C : Type 0} → WithTimeline S C → Timeline C
timeline_in x = observer_of (outer_of x)

module _ {S C : Type 0} (latest : C → ℕ) (gives : C → ℕ → C → Type 0)
    (s : SubscriberOf (WithTimeline S C)) where
  -- these requests were served with these answers, and the timeline keeps a point for all that its
  -- position was notified of, in order, unless it failed
  pub record KeepsServed (requests : List Request) (answers : List Answer)
      (old new : Dispatch (WithTimeline S C)) : Type 0 where
    pub served : Served s.registry s.with_registry s.has_form s.stepped s.reloaded s.hears s.acts_at
        requests answers old new
    pub kept : KeepsAll latest gives (timeline_in (stack_of old))
        (passed_at timeline_position (flat served.made)) (timeline_in (stack_of new))

  -- requests have one answer each; if the dispatcher was ready, they were served with these, and
  -- the timeline keeps a point for all that its position was notified of
  pub record AnswersTimed (requests : List Request) (old new : Dispatch (WithTimeline S C))
      (answers : Vec Answer Global) : Type 0 where
    pub one_each : length answers.items ≡ length requests
    pub kept : IsReadySomehow s.registry s.with_registry s.has_form s.stepped s.reloaded old
        → KeepsServed requests answers.items old new

-- requests are refused for want of memory, and nothing changes
pub record FindsNoMemory {S : Type 0} (error : TraceError) (old new : Dispatch S) : Type 0 where
  pub memory : error ≡ OutOfMemory
  pub unchanged : new ≡ old
