use Rattle.span_registry.proofs.Agreeing.{has_cut}
use Rattle.span_registry.proofs.laws.stores_can_be_cut_down.Goals as goal

pub returns : goal.returns
returns c = λ numbers s. has_cut numbers s
