use Rattle.std.proofs.Common.{◌≡◌, take}
use Rattle.span_export.specs.Picture.{depth_on}
use Rattle.span_export.proofs.stay.depth_on.Given as goal

-- the depth by the stays so far
abbrev pub invariant-loop-stay : goal.invariant-loop-stay
invariant-loop-stay l = l.depth ≡ depth_on l.lane.0 (take l.stay-index l.stays)
