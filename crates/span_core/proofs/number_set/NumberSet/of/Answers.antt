use Rattle.span_core.proofs.Words.{is_one-shifted}
use Rattle.span_core.proofs.number_set.NumberSet.of.Goals as goal

pub returns : goal.returns
returns c = λ n. is_one-shifted c.args.number n c.requires
