use Rattle.std.proofs.Common.{refl}
use Rattle.span_tracer.proofs.tracer.Tracer.event_as_wanted.Goals as goal

pub returns-in-Ok-true : goal.returns-in-Ok-true
returns-in-Ok-true g c = rw (← c.in-Ok-true.field-0-test) c.in-Ok-true.ensures

pub returns-in-Ok-false : goal.returns-in-Ok-false
returns-in-Ok-false g c = record {
  above = λ a. refl;
  served = λ passes. rw (← c.in-Ok-false.field-0-test) (c.in-Ok-false.ensures.served passes);
}
