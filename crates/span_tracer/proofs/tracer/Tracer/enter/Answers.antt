use Rattle.std.proofs.Common.{Err, None, Ok, Option, Some, inr, sym}
use Rattle.span_core.specs.declared.error.TraceError.{TraceError}
use Rattle.span_core.specs.declared.level.LevelFilter.{LevelFilter}
use Rattle.span_core.specs.declared.span.Attributes.{Attributes}
use Rattle.span_core.specs.declared.span.Id.{Id}
use Rattle.span_core.specs.declared.span.Lane.{Lane}
use Rattle.span_dispatch.specs.Contract.{SubscriberOf}
use Rattle.span_tracer.specs.Span.{EntersIfMade, RefusesToTrace, span_id}
use Rattle.span_tracer.specs.Tracer.{TracesSpan}
use Rattle.span_tracer.proofs.tracer.Tracer.enter.Goals as goal

pub returns-in-Ok-entered-clause-opens : goal.returns-in-Ok-entered-clause-opens
returns-in-Ok-entered-clause-opens g c = rw c.in-Ok-entered.ensures.span c.in-Ok.ensures.opens

-- what is opened, and refused to enter
module _ {S : Type 0} (s : SubscriberOf S) (lane : Lane) (hint : Option LevelFilter) (attrs : Attributes) (e : TraceError) where
  refused_to_enter : (made : Option Id) → TracesSpan s lane hint attrs (Ok made) → EntersIfMade s lane made (Err e) → RefusesToTrace s lane hint attrs e
  refused_to_enter None h k = absurd (cc)
  refused_to_enter (Some id) h k = inr (id, h, k)

pub returns-in-Err-entered-clause-refused : goal.returns-in-Err-entered-clause-refused
returns-in-Err-entered-clause-refused g c =
    refused_to_enter _ _ _ _ _ (span_id c.in-Ok.span) c.in-Ok.ensures.opens (rw (sym c.in-Ok.ensures.tracer) c.in-Err-entered.ensures.enters)
