use Rattle.std.proofs.Common.{◌≡◌, ℕ, get_or, take}
use Rattle.span_timing.specs.Layout.{column_width}
use Rattle.span_timing.specs.private.Cells.{lines_in}
use Rattle.span_timing.proofs.layout.widths.Given as goal

-- each column is as wide as its widest cell so far
abbrev pub invariant-loop-line : goal.invariant-loop-line
invariant-loop-line l = (k : ℕ) → get_or l.widths.items k 0 ≡ column_width (lines_in (take l.line-index l.lines)) k
