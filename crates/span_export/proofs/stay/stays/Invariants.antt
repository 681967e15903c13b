use Rattle.std.proofs.Common.{◌≡◌, take}
use Rattle.span_export.specs.Picture.{stays_of}
use Rattle.span_export.proofs.stay.stays.Given as goal

-- the stays of the points so far
abbrev pub invariant-loop-point : goal.invariant-loop-point
invariant-loop-point l = l.stays.items ≡ stays_of (take l.point-index l.points)
