use Rattle.span_format.proofs.Told.{keeps}
use Rattle.span_format.proofs.laws.what_open_spans_were_given_is_kept.Goals as goal

pub returns : goal.returns
returns c = keeps
