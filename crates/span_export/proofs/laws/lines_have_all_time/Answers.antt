use Rattle.span_export.proofs.AllTime.{lines_have_all_time}
use Rattle.span_export.proofs.laws.lines_have_all_time.Goals as goal

pub returns : goal.returns
returns c = lines_have_all_time
