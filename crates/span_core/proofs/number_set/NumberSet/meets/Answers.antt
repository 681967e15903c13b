use Rattle.span_core.proofs.Words.{meets-some}
use Rattle.span_core.proofs.number_set.NumberSet.meets.Goals as goal

pub returns : goal.returns
returns c = meets-some c.args.self.now.bits c.args.other.now.bits c.args.self.now.fits
