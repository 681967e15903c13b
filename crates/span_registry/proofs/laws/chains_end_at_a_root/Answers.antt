use Rattle.span_store.proofs.StoreLaws.{root_above}
use Rattle.span_registry.proofs.laws.chains_end_at_a_root.Goals as goal

pub returns : goal.returns
returns c = λ m x forest there. let chain = forest x there.0 there.1 in root_above m x chain.0 chain.1
