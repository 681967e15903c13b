use Rattle.span_targets.proofs.Levels.{names_levels}
use Rattle.span_targets.proofs.laws.levels_are_those_read.Goals as goal

pub returns : goal.returns
returns c = names_levels c.args.text.now
