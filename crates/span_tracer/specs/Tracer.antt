-- What is said of a tracer's calls.
use Rattle.std.specs.Prelude.{◌≡◌, Bool, true, false, Option, None, Result, Ok}
use Rattle.std.specs.declared.alloc.Global.{Global}
use Rattle.span_core.specs.Event.{event_metadata}
use Rattle.span_core.specs.Level.{is_above}
use Rattle.span_core.specs.Metadata.{level_of}
use Rattle.span_core.specs.Span.{metadata_of}
use Rattle.span_core.specs.declared.error.TraceError.{TraceError}
use Rattle.span_core.specs.declared.event.Event.{Event}
use Rattle.span_core.specs.declared.level.LevelFilter.{LevelFilter}
use Rattle.span_core.specs.declared.metadata.Metadata.{Metadata}
use Rattle.span_core.specs.declared.span.Attributes.{Attributes}
use Rattle.span_core.specs.declared.span.Id.{Id}
use Rattle.span_core.specs.declared.span.Lane.{Lane}
use Rattle.span_dispatch.specs.Contract.{OpensSpan, Probes, SendsEvent, ShowsHint, ShowsKept, SubscriberOf}
use Rattle.span_tracer.specs.Receiver.{ServesSome}
use Rattle.span_tracer.specs.declared.receiver.Receiver.{Receiver}
use Rattle.span_tracer.specs.declared.tracer.Tracer.{Tracer}

-- the memory that a receiver takes from
abbrev pub alloc_of : {S : Type 0} → Receiver S → Global
alloc_of r = r.alloc

module _ {R S : Type 0} where
  -- the lane that a tracer's calls come from
  abbrev pub tracer_lane : Tracer R S → Lane
  tracer_lane t = t.lane

  -- the hint that a tracer was made with
  abbrev pub tracer_hint : Tracer R S → Option LevelFilter
  tracer_hint t = t.hint

  -- the memory that a tracer takes from
  abbrev pub tracer_alloc : Tracer R S → Global
  tracer_alloc t = alloc_of t.receiver.now

-- a call is dropped where its level is above a hint, else it is served
pub record DropsAboveHint (hint : Option LevelFilter) (m : Metadata) (drops serves : Type 0)
    : Type 0 where
  pub above : is_above (level_of m) hint ≡ true → drops
  pub served : is_above (level_of m) hint ≡ false → serves

module _ {S : Type 0} (s : SubscriberOf S) where
  -- a hint is the one that some dispatcher shows behind the lock
  abbrev pub HasHint : Option LevelFilter → Type 0
  HasHint hint = ServesSome s (λ old new. ShowsKept old hint × ShowsHint s old hint)

  -- a probe from this lane, by a tracer with this hint
  abbrev pub TracesProbe : Lane → Option LevelFilter → Metadata → Result Bool TraceError → Type 0
  TracesProbe lane hint m given =
      DropsAboveHint hint m (given ≡ Ok false) (ServesSome s (Probes s lane m given))

  -- an event from this lane, by a tracer with this hint
  abbrev pub TracesEvent : Lane → Option LevelFilter → Event → Result Bool TraceError → Type 0
  TracesEvent lane hint e given =
      DropsAboveHint hint (event_metadata e) (given ≡ Ok false)
      (ServesSome s (SendsEvent s lane e given))

  -- a new span from this lane, by a tracer with this hint
  abbrev pub TracesSpan : Lane → Option LevelFilter → Attributes → Result (Option Id) TraceError
      → Type 0
  TracesSpan lane hint attrs given =
      DropsAboveHint hint (metadata_of attrs) (given ≡ Ok None)
      (ServesSome s (OpensSpan s lane attrs given))
