use Rattle.span_core.proofs.FilterLemmas.{union-assoc, union-comm}
use Rattle.span_core.proofs.laws.unions.Goals as goal

pub returns-clause-commutes : goal.returns-clause-commutes
returns-clause-commutes c = union-comm

pub returns-clause-regroups : goal.returns-clause-regroups
returns-clause-regroups c = union-assoc
