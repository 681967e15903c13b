use Rattle.std.proofs.Common.{◌≡◌, flat_map, slice_index, string_bytes, take}
use Rattle.span_timing.specs.Layout.{line_text}
use Rattle.span_timing.specs.private.Cells.{lines_in}
use Rattle.span_timing.proofs.layout.laid_out.Given as goal

-- the lines so far are written
abbrev pub invariant-loop-line : goal.invariant-loop-line
invariant-loop-line l = string_bytes l.text ≡ flat_map (line_text (slice_index l.widths.items)) (lines_in (take l.line-index l.lines))
