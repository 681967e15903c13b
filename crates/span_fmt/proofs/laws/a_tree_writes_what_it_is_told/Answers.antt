use Rattle.span_fmt.proofs.Told.{tree_written}
use Rattle.span_fmt.proofs.laws.a_tree_writes_what_it_is_told.Goals as goal

pub returns : goal.returns
returns c = tree_written
