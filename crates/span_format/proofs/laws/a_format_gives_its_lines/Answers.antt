use Rattle.span_format.proofs.Told.{lines_given}
use Rattle.span_format.proofs.laws.a_format_gives_its_lines.Goals as goal

pub returns : goal.returns
returns c = lines_given
