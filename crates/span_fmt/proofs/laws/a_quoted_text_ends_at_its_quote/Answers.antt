use Rattle.span_fmt.proofs.Closing.{quoted_ends}
use Rattle.span_fmt.proofs.laws.a_quoted_text_ends_at_its_quote.Goals as goal

pub returns : goal.returns
returns c = quoted_ends
