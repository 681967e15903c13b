use Rattle.std.proofs.Common.{◌≡◌, string_bytes, take}
use Rattle.span_export.specs.Picture.{marks_text, top_in}
use Rattle.span_export.proofs.picture.marks.Given as goal

-- the marks so far
abbrev pub invariant-loop-point : goal.invariant-loop-point
invariant-loop-point l = string_bytes l.text ≡ marks_text l.table l.scale (top_in l.tops) (take l.point-index l.points)
