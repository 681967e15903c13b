use Rattle.span_stacks.proofs.Pass.{reached}
use Rattle.span_stacks.proofs.laws.a_leaf_is_notified_by_its_path.Goals as goal

pub returns : goal.returns
returns c = reached
