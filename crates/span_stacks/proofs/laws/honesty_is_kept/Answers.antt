use Rattle.span_stacks.proofs.RulesKept.{honesty_is_kept}
use Rattle.span_stacks.proofs.laws.honesty_is_kept.Goals as goal

pub returns : goal.returns
returns c = honesty_is_kept
