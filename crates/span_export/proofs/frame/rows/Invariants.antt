use Rattle.std.proofs.Common.{◌≡◌, ℕ, take}
use Rattle.std.specs.BTreeMap.{get}
use Rattle.std.specs.Ordering.{nat_cmp}
use Rattle.span_export.specs.private.Plan.{rows_in}
use Rattle.span_export.proofs.frame.rows.Given as goal

-- the rows of the lanes that have some of the points so far
abbrev pub invariant-loop-point : goal.invariant-loop-point
invariant-loop-point l = (lane : ℕ) → get nat_cmp l.rows lane ≡ rows_in (take l.point-index l.points) l.stays lane
