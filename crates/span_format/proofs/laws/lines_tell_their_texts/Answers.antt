use Rattle.span_format.proofs.Between.{formats_tell}
use Rattle.span_format.proofs.laws.lines_tell_their_texts.Goals as goal

pub returns : goal.returns
returns c = formats_tell
