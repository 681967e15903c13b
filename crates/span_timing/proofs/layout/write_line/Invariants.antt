use Rattle.std.proofs.Common.{◌≡◌, ◌++◌, flat_map, get_or, string_bytes, take}
use Rattle.std.specs.List.{enumerate_from}
use Rattle.span_timing.specs.Layout.{cell_text}
use Rattle.span_timing.specs.private.Cells.{cells_in}
use Rattle.span_timing.proofs.layout.write_line.Given as goal

-- the cells so far are written
abbrev pub invariant-loop-column : goal.invariant-loop-column
invariant-loop-column l = string_bytes l.text
    ≡ string_bytes l.fn.text ++ flat_map (λ e. cell_text (get_or l.widths e.0 0) e.0 e.1) (enumerate_from 0 (cells_in (take l.column l.line)))
