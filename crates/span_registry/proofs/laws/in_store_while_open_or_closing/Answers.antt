use Rattle.span_store.proofs.StoreLaws.{in_store, not_both, open_or_closing}
use Rattle.span_registry.proofs.laws.in_store_while_open_or_closing.Goals as goal

pub returns-clause-in_store : goal.returns-clause-in_store
returns-clause-in_store c = λ m x. (open_or_closing m x, in_store m x)

pub returns-clause-not_both : goal.returns-clause-not_both
returns-clause-not_both c = λ m x o k. not_both m x o k
