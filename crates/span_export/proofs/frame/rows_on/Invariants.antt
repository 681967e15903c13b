use Rattle.std.proofs.Common.{◌≡◌, take}
use Rattle.span_export.specs.private.Plan.{rows_on}
use Rattle.span_export.proofs.frame.rows_on.Given as goal

-- the rows by the stays so far
abbrev pub invariant-loop-stay : goal.invariant-loop-stay
invariant-loop-stay l = l.rows ≡ rows_on l.lane.0 (take l.stay-index l.stays)
