use Rattle.span_fmt.proofs.TreeBetween.{trees_tell}
use Rattle.span_fmt.proofs.laws.trees_tell_their_texts.Goals as goal

pub returns : goal.returns
returns c = trees_tell
