use Rattle.span_fmt.proofs.FormsTold.{tree_given}
use Rattle.span_fmt.proofs.laws.a_tree_form_gives_its_lines.Goals as goal

pub returns : goal.returns
returns c = tree_given
