-- What a handle of a span holds, and what becomes of it.
use Rattle.std.specs.Prelude.{◌≡◌, ◌⊎◌, Bool, IfSome, Option, None, Some, Result, Ok, Err}
use Rattle.span_core.specs.declared.error.TraceError.{TraceError}
use Rattle.span_core.specs.declared.level.LevelFilter.{LevelFilter}
use Rattle.span_core.specs.declared.span.Attributes.{Attributes}
use Rattle.span_core.specs.declared.span.Id.{Id}
use Rattle.span_core.specs.declared.span.Lane.{Lane}
use Rattle.span_dispatch.specs.Contract.{ClonesSpan, DropsOneHandle, EntersSpan, ExitsSpan, SubscriberOf}
use Rattle.span_dispatch.specs.declared.dispatch.Dispatch.{Dispatch}
use Rattle.span_tracer.specs.Receiver.{ServesSome}
use Rattle.span_tracer.specs.Tracer.{TracesSpan}
use Rattle.span_tracer.specs.declared.span.Entered.{Entered}
use Rattle.span_tracer.specs.declared.span.EnteredSpan.{EnteredSpan}
use Rattle.span_tracer.specs.declared.span.Span.{Span}
use Rattle.span_tracer.specs.declared.tracer.Tracer.{Tracer}

module _ {R S : Type 0} where
  -- the span of a handle, if one was made
  abbrev pub span_id : Span R S → Option Id
  span_id h = h.id

  -- the tracer by which a handle's calls are made
  abbrev pub span_tracer : Span R S → Tracer R S
  span_tracer h = h.tracer

  -- the handle whose span a guard leaves
  abbrev pub span_of : Entered R S → Span R S
  span_of g = g.span.now

  -- the handle that a guard leaves and drops
  abbrev pub held_span : EnteredSpan R S → Span R S
  held_span g = g.span

  -- the span that was opened, or why it was refused
  abbrev pub opened : Result (Span R S) TraceError → Result (Option Id) TraceError
  opened (Ok h) = Ok (span_id h)
  opened (Err e) = Err e

-- whether a call was done, or why it was refused
abbrev pub done_of : {A : Type 0} → Result A TraceError → Result (Unit {0}) TraceError
done_of (Ok a) = Ok tt
done_of (Err e) = Err e

module _ {S : Type 0} (s : SubscriberOf S) where
  -- a lane asked to enter a span, with this answer; where there is none, nothing is refused
  abbrev pub EntersIfMade : Lane → Option Id → Result (Unit {0}) TraceError → Type 0
  EntersIfMade lane None given = given ≡ Ok tt
  EntersIfMade lane (Some id) given = ServesSome s (EntersSpan s lane id given)

  -- a lane asked for a handle more of a span, with this answer; where there is none, nothing is
  -- refused
  abbrev pub AddsHandle : Lane → Option Id → Result (Unit {0}) TraceError → Type 0
  AddsHandle lane None given = given ≡ Ok tt
  AddsHandle lane (Some id) given =
      (cloned : Result Id TraceError)
      × (given ≡ done_of cloned) × ServesSome s (ClonesSpan s lane id cloned)

  -- a lane left a span, if there is one
  abbrev pub LeavesSpan : Lane → Option Id → Type 0
  LeavesSpan lane o = IfSome o (λ id. ServesSome s (ExitsSpan s lane id))

  -- a lane left a span, and then asked to drop a handle of it, with this answer
  pub record ExitsThenDrops (lane : Lane) (id : Id) (given : Result Bool TraceError)
      (old new : Dispatch S) : Type 0 where
    pub between : Dispatch S
    pub left : ExitsSpan s lane id old between
    pub dropped : DropsOneHandle s lane id given between new

  -- a lane left a span, if there is one, and then asked to drop a handle of it, with some answer
  -- and no call between
  abbrev pub LeavesAndDrops : Lane → Option Id → Type 0
  LeavesAndDrops lane o =
      IfSome o
      (λ id. (given : Result Bool TraceError) × ServesSome s (ExitsThenDrops lane id given))

  -- a lane asked to drop a handle of a span, if there is one, with some answer
  abbrev pub DropsHandle : Lane → Option Id → Type 0
  DropsHandle lane o =
      IfSome o
      (λ id. (given : Result Bool TraceError) × ServesSome s (DropsOneHandle s lane id given))

  -- why no span is opened and entered: it is refused, or it is opened and to enter it is
  abbrev pub RefusesToTrace : Lane → Option LevelFilter → Attributes → TraceError → Type 0
  RefusesToTrace lane hint attrs e =
      TracesSpan s lane hint attrs (Err e)
      ⊎ ((id : Id) × TracesSpan s lane hint attrs (Ok (Some id))
      × EntersIfMade lane (Some id) (Err e))
