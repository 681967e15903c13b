use Rattle.span_fmt.proofs.Told.{lines_written}
use Rattle.span_fmt.proofs.laws.lines_are_of_what_they_are_told.Goals as goal

pub returns : goal.returns
returns c = lines_written
