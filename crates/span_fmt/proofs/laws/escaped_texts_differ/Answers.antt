use Rattle.span_fmt.proofs.Differ.{differ}
use Rattle.span_fmt.proofs.laws.escaped_texts_differ.Goals as goal

pub returns : goal.returns
returns c = differ
