-- What a probe adds to the request behind it: nothing.
use Rattle.std.specs.Prelude.{◌≡◌, Bool, true, Option, Result, Ok, Err}
use Rattle.span_core.specs.Event.{event_metadata}
use Rattle.span_core.specs.Span.{metadata_of}
use Rattle.span_core.specs.declared.error.TraceError.{TraceError}
use Rattle.span_core.specs.declared.event.Event.{Event}
use Rattle.span_core.specs.declared.span.Attributes.{Attributes}
use Rattle.span_core.specs.declared.span.Id.{Id}
use Rattle.span_core.specs.declared.span.Lane.{Lane}
use Rattle.span_dispatch.specs.Call.{event_answer, span_answer}
use Rattle.span_dispatch.specs.Contract.{AnswersCall, OpensSpan, Probes, SendsEvent, SubscriberOf}
use Rattle.span_dispatch.specs.declared.call.Call.TheVariants.{OpenSpan, SendEvent}
use Rattle.span_dispatch.specs.declared.dispatch.Dispatch.{Dispatch}
use Rattle.span_dispatch.specs.declared.request.Answer.TheVariants.{Dropped, Refused}
use Rattle.span_dispatch.specs.declared.request.Answer.{Answer}

-- what a request is answered that is made only where a probe says yes, and the probe doesn't: it is
-- dropped, or refused as the probe is
abbrev pub unwanted_answer : Result Bool TraceError → Answer
unwanted_answer (Ok said) = Dropped
unwanted_answer (Err e) = Refused e

module _ {S : Type 0} (s : SubscriberOf S) where
  -- an event behind a probe that said yes is served, by an honest stack with a cache up to date, as
  -- the event alone would be
  abbrev pub EventsServedAlone : Type 0
  EventsServedAlone =
      (lane : Lane) (e : Event) (given : Result Bool TraceError) (old between new : Dispatch S)
      → Probes s lane (event_metadata e) (Ok true) old between
      → SendsEvent s lane e given between new
      → AnswersCall s (SendEvent lane e) (event_answer given) old new

  -- where a probe doesn't say yes, an honest stack with a cache up to date would drop each event of
  -- its metadata, or refuse it as the probe, and nothing else would come of it
  abbrev pub EventsUnwanted : Type 0
  EventsUnwanted =
      (lane : Lane) (e : Event) (wanted : Result Bool TraceError) (old new : Dispatch S)
      → Probes s lane (event_metadata e) wanted old new → ¬ (wanted ≡ Ok true)
      → AnswersCall s (SendEvent lane e) (unwanted_answer wanted) old new

  -- a new span behind a probe that said yes is served, by an honest stack with a cache up to date,
  -- as the span alone would be
  abbrev pub SpansServedAlone : Type 0
  SpansServedAlone =
      (lane : Lane) (attrs : Attributes) (given : Result (Option Id) TraceError)
      (old between new : Dispatch S) → Probes s lane (metadata_of attrs) (Ok true) old between
      → OpensSpan s lane attrs given between new
      → AnswersCall s (OpenSpan lane attrs) (span_answer given) old new

  -- where a probe doesn't say yes, an honest stack with a cache up to date would drop each new span
  -- of its metadata, or refuse it as the probe, and nothing else would come of it
  abbrev pub SpansUnwanted : Type 0
  SpansUnwanted =
      (lane : Lane) (attrs : Attributes) (wanted : Result Bool TraceError) (old new : Dispatch S)
      → Probes s lane (metadata_of attrs) wanted old new → ¬ (wanted ≡ Ok true)
      → AnswersCall s (OpenSpan lane attrs) (unwanted_answer wanted) old new
