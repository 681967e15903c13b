use Rattle.span_fmt.proofs.Given.{all_given}
use Rattle.span_fmt.proofs.laws.what_spans_were_given_is_known.Goals as goal

pub returns : goal.returns
returns c = all_given
