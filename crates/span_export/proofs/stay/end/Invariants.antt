use Rattle.std.proofs.Common.{◌≡◌, drop, false}
use Rattle.std.specs.List.{list_any}
use Rattle.span_core.specs.Span.{number_of}
use Rattle.span_export.specs.Picture.{lasts_in}
use Rattle.span_export.proofs.stay.end.Given as goal

-- none of those behind lasts
abbrev pub invariant-loop-place : goal.invariant-loop-place
invariant-loop-place l = (l.stays ≡ l.fn.stays) × (list_any (lasts_in l.lane.0 (number_of l.span)) (drop l.place l.stays) ≡ false)
