use Rattle.span_store.proofs.StoreLaws.{parent_open}
use Rattle.span_registry.proofs.laws.parents_are_open.Goals as goal

pub returns : goal.returns
returns c = λ m x p f h. parent_open m x p f h
