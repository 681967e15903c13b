use Rattle.std.proofs.Common.{sym}
use Rattle.span_tracer.proofs.span.EnteredSpan.drop.Goals as goal

pub returns-in-Some : goal.returns-in-Some
returns-in-Some g c = rw (sym c.into_parts-id.ensures.tracer, sym c.into_parts-id.ensures.id, c.in-Some.is) c.exit_and_drop.ensures
