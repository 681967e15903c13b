use Rattle.std.proofs.Common.{◌≡◌, ◌≤◌, ◌<◌, ℕ, [], get_or, max, vec_len}
use Rattle.span_timing.specs.Layout.{width_of}
use Rattle.span_timing.specs.private.Cells.{cells_in}
use Rattle.span_timing.proofs.layout.widen.Given as goal

-- the columns so far are as wide as their cells, the others as wide as they were
abbrev pub invariant-loop-column : goal.invariant-loop-column
invariant-loop-column l = record {
  reached : l.column ≤ vec_len l.widths;
  wide : (k : ℕ) → k < l.column → get_or l.widths.items k 0 ≡ max (get_or l.fn.widths.items k 0) (width_of (get_or (cells_in l.line) k []));
  others : (k : ℕ) → l.column ≤ k → get_or l.widths.items k 0 ≡ get_or l.fn.widths.items k 0;
}
