use Rattle.span_core.specs.Filters.{has_filter, refuses}
use Rattle.span_core.proofs.FilterLemmas.{meets-member, is_hidden-union, is_hidden-no_filter, is_hidden-no_refusal}
use Rattle.span_core.proofs.laws.hiding.Goals as goal

pub returns-clause-exactly : goal.returns-clause-exactly
returns-clause-exactly c = λ mask verdict. meets-member (has_filter mask) (refuses verdict)

pub returns-clause-union : goal.returns-clause-union
returns-clause-union c = is_hidden-union

pub returns-clause-none : goal.returns-clause-none
returns-clause-none c = is_hidden-no_filter

pub returns-clause-allowed : goal.returns-clause-allowed
returns-clause-allowed c = is_hidden-no_refusal
