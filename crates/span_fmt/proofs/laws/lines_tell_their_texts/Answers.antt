use Rattle.span_fmt.proofs.Between.{lines_tell}
use Rattle.span_fmt.proofs.laws.lines_tell_their_texts.Goals as goal

pub returns : goal.returns
returns c = lines_tell
