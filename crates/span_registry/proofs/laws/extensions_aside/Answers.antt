use Rattle.span_registry.proofs.CallerLemmas.{same_further, same_itself}
use Rattle.span_registry.proofs.laws.extensions_aside.Goals as goal

pub returns-clause-itself : goal.returns-clause-itself
returns-clause-itself c = λ s. same_itself s

pub returns-clause-further : goal.returns-clause-further
returns-clause-further c = λ s t u a b. same_further s t u a b
