use Rattle.std.proofs.Common.{◌≡◌, ◌++◌, drop, map, take}
use Rattle.span_core.specs.Span.{number_of}
use Rattle.span_export.specs.Picture.{closed_by}
use Rattle.span_export.proofs.stay.close.Given as goal

-- the stays so far are closed
abbrev pub invariant-loop-stay : goal.invariant-loop-stay
invariant-loop-stay l =
    l.stays ≡ map (closed_by (number_of l.span) l.time) (take l.stay-index l.fn.stays) ++ drop l.stay-index l.fn.stays
