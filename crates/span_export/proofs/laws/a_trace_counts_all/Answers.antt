use Rattle.span_export.proofs.Phases.{counts_all}
use Rattle.span_export.proofs.laws.a_trace_counts_all.Goals as goal

pub returns : goal.returns
returns c = counts_all
