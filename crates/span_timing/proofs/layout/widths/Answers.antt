use Rattle.std.proofs.Common.{◌≡◌, ◌∙◌, ◌+◌, ◌++◌, ◌∷◌, [], ap, get_or, max, sym, take}
use Rattle.std.proofs.lemmas.List.{map_more}
use Rattle.span_timing.proofs.Columns.{wider}
use Rattle.span_timing.specs.Layout.{column_width, width_of}
use Rattle.span_timing.specs.private.Cells.{cells_in, lines_in}
use Rattle.span_timing.proofs.layout.widths.Goals as goal

pub loop-line-preserved : goal.loop-line-preserved
loop-line-preserved c = λ k.
    let lines = c.args.lines.now in
    let i = c.loop-line.line-index in
    let line = c.line-item.result in
    let more : lines_in (take (i + 1) lines) ≡ lines_in (take i lines) ++ cells_in line.items ∷ [] =
    map_more (λ v. cells_in v.items) lines i line c.loop-line-test.true
    ∙ ap (λ v. lines_in (take i lines) ++ cells_in v.items ∷ []) (sym c.line-item.is) in
    c.in_ok-widen.ensures k ∙ ap (λ cells. max (get_or c.loop-line.widths.items k 0) (width_of (get_or (cells_in cells) k []))) c.deref.ensures.value
    ∙ ap (λ n. max n (width_of (get_or (cells_in line.items) k []))) (c.loop-line.invariant k)
    ∙ sym (ap (λ ls. column_width ls k) more ∙ wider (lines_in (take i lines)) (cells_in line.items) k)
