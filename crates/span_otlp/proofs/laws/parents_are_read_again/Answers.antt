use Rattle.span_otlp.proofs.Parents.{one_parent, read_again}
use Rattle.span_otlp.proofs.laws.parents_are_read_again.Goals as goal

pub returns-clause-one : goal.returns-clause-one
returns-clause-one c = one_parent

pub returns-clause-again : goal.returns-clause-again
returns-clause-again c = read_again
