use Rattle.std.proofs.Common.{append_assoc}
use Rattle.span_export.proofs.picture.write_rect.Goals as goal

pub returns : goal.returns
returns c =
    let written = simp append_assoc at c.write.ensures.bytes in
    simp append_assoc written
