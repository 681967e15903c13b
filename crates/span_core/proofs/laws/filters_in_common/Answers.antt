use Rattle.span_core.proofs.FilterLemmas.{meets-comm, meets-member, meets-same, meets-union, meets-none}
use Rattle.span_core.proofs.laws.filters_in_common.Goals as goal

pub returns-clause-exactly : goal.returns-clause-exactly
returns-clause-exactly c = meets-member

pub returns-clause-commutes : goal.returns-clause-commutes
returns-clause-commutes c = meets-comm

pub returns-clause-same : goal.returns-clause-same
returns-clause-same c = meets-same

pub returns-clause-union : goal.returns-clause-union
returns-clause-union c = meets-union

pub returns-clause-none : goal.returns-clause-none
returns-clause-none c = meets-none
