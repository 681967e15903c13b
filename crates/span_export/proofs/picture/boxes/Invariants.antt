use Rattle.std.proofs.Common.{◌≡◌, string_bytes, take}
use Rattle.span_export.specs.Picture.{boxes_text, top_in}
use Rattle.span_export.specs.Site.{named_by}
use Rattle.span_export.proofs.picture.boxes.Given as goal

-- the boxes so far
abbrev pub invariant-loop-stay : goal.invariant-loop-stay
invariant-loop-stay l = string_bytes l.text ≡ boxes_text (named_by l.spans) l.scale (top_in l.tops) (take l.stay-index l.stays)
