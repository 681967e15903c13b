use Rattle.span_otlp.proofs.Shared.{parts_keep_roots}
use Rattle.span_otlp.proofs.laws.parts_keep_traces.Goals as goal

pub returns : goal.returns
returns c = parts_keep_roots
