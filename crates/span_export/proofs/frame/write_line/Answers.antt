use Rattle.std.proofs.Common.{append_assoc}
use Rattle.span_export.proofs.frame.write_line.Goals as goal

pub returns : goal.returns
returns c = simp append_assoc c.write.ensures.bytes
