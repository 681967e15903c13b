use Rattle.span_core.proofs.Words.{is_one-set}
use Rattle.span_core.proofs.number_set.NumberSet.word.Goals as goal

pub returns : goal.returns
returns c = is_one-set c.args.self.now.bits
