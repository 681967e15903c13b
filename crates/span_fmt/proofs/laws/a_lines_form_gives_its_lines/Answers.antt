use Rattle.span_fmt.proofs.FormsTold.{lines_given}
use Rattle.span_fmt.proofs.laws.a_lines_form_gives_its_lines.Goals as goal

pub returns : goal.returns
returns c = lines_given
