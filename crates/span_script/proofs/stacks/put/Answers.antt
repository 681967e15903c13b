use Rattle.std.proofs.Common.{arith}
use Rattle.span_script.proofs.stacks.put.Goals as goal

pub unreachable-requires : goal.unreachable-requires
unreachable-requires g c =
    let room = c.requires.room in
    let fits = room.room in
    let full = c.in-Err.ensures.refused.full room.form room.has in
    omega (arith, fits, full)
