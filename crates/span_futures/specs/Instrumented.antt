-- What a future within a span holds, and what its polls do.
use Rattle.std.specs.Prelude.{OnOk, Option, Result}
use Rattle.span_core.specs.declared.error.TraceError.{TraceError}
use Rattle.span_core.specs.declared.span.Id.{Id}
use Rattle.span_core.specs.declared.span.Lane.{Lane}
use Rattle.span_dispatch.specs.Contract.{SubscriberOf}
use Rattle.span_futures.specs.declared.instrument.Instrumented.{Instrumented}
use Rattle.span_tracer.specs.Span.{EntersIfMade, LeavesSpan}
use Rattle.span_tracer.specs.declared.span.Span.{Span}

module _ {R S F : Type 0} where
  -- the future that is polled
  abbrev pub future_within : Instrumented R S F → F
  future_within task = task.future

  -- the handle of the span that it is polled in
  abbrev pub span_around : Instrumented R S F → Span R S
  span_around task = task.span

module _ {S : Type 0} (s : SubscriberOf S) where
  -- a lane asked to enter a span, if there is one, and left it where that wasn't refused
  abbrev pub RunsWithin : Lane → Option Id → Type 0
  RunsWithin lane o =
      (given : Result (Unit {0}) TraceError) × EntersIfMade s lane o given
      × OnOk given (LeavesSpan s lane o)
