use Rattle.span_dispatch.proofs.Readable.{closes_as_it_opened}
use Rattle.span_dispatch.proofs.laws.a_close_is_told_to_whom_the_span_was.Goals as goal

pub returns : goal.returns
returns c = closes_as_it_opened
