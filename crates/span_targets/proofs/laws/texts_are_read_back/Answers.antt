use Rattle.span_targets.proofs.Back.{read_back}
use Rattle.span_targets.proofs.laws.texts_are_read_back.Goals as goal

pub returns : goal.returns
returns c = read_back c.args.filter.now c.requires
