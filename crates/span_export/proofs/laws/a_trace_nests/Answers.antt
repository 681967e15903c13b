use Rattle.span_export.proofs.Nest.{traces_nest}
use Rattle.span_export.proofs.laws.a_trace_nests.Goals as goal

pub returns : goal.returns
returns c = traces_nest
