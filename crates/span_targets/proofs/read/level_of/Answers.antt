use Rattle.std.proofs.Common.{◌∙◌}
use Rattle.span_targets.proofs.Levels.{levels_read}
use Rattle.span_targets.proofs.read.level_of.Goals as goal

pub returns : goal.returns
returns c = c.ok.ensures.value ∙ levels_read c.args.text.now c.parse.result c.parse.ensures.value
