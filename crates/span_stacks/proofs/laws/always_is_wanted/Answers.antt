use Rattle.span_stacks.proofs.Asked.{asked_by_all}
use Rattle.span_stacks.proofs.Interest.{always_is_wanted}
use Rattle.span_stacks.proofs.laws.always_is_wanted.Goals as goal

pub returns-clause-wanted : goal.returns-clause-wanted
returns-clause-wanted c = always_is_wanted

pub returns-clause-asked : goal.returns-clause-asked
returns-clause-asked c = λ f filters m s lane honest same.
    asked_by_all f filters m s lane honest (always_is_wanted f filters m s lane honest same)
