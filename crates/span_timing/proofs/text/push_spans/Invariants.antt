use Rattle.std.proofs.Common.{◌≡◌, ◌++◌, ◌∷◌, [], flat_map, take}
use Rattle.std.specs.Option.{option_map_or}
use Rattle.span_timing.specs.Text.{span_lines, span_words}
use Rattle.span_timing.specs.Timing.{row_at}
use Rattle.span_timing.specs.private.Cells.{lines_in}
use Rattle.span_timing.proofs.text.push_spans.Given as goal

-- the lines of the callsites so far are there
abbrev pub invariant-loop-callsite : goal.invariant-loop-callsite
invariant-loop-callsite l = lines_in l.lines.items
    ≡ (lines_in l.fn.lines.items ++ span_words ∷ [])
    ++ flat_map (λ n. option_map_or (span_lines l.sites n) (row_at n l.timing) []) (take l.callsite-index l.callsites)
