use Rattle.std.proofs.Common.{arith, ◌≡◌, ◌∙◌, ap, flat_map, slice_index, take}
use Rattle.std.proofs.lemmas.List.{take_all}
use Rattle.span_timing.proofs.Columns.{same_widths}
use Rattle.span_timing.specs.Layout.{column_width, line_text}
use Rattle.span_timing.specs.private.Cells.{lines_in}
use Rattle.span_timing.proofs.layout.laid_out.Goals as goal

pub returns : goal.returns
returns c =
    let lines = c.args.lines.now in
    let i = c.loop-line.line-index in
    let widths = c.in_ok-widths.widths.items in
    let all : take i lines ≡ lines = take_all i lines (omega arith) in
    let wide : line_text (slice_index widths) ≡ line_text (column_width (lines_in lines)) =
    same_widths (slice_index widths) (column_width (lines_in lines)) c.in_ok-widths.ensures in
    c.loop-line.invariant ∙ ap (λ ls. flat_map (line_text (slice_index widths)) (lines_in ls)) all ∙ ap (λ f. flat_map f (lines_in lines)) wide
