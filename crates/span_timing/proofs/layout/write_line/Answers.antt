use Rattle.std.proofs.Common.{arith, ◌≡◌, ◌∙◌, ◌+◌, ◌++◌, ◌∷◌, [], ap, append_assoc, flat_map, get_or, length, rules, string_bytes, sym, take}
use Rattle.std.proofs.lemmas.List.{length-map, length-take-le, map_more}
use Rattle.std.specs.List.{enumerate_from}
use Rattle.span_timing.proofs.Columns.{cells_more}
use Rattle.span_timing.specs.Layout.{cell_text}
use Rattle.span_timing.specs.private.Cells.{cells_in}
use Rattle.span_timing.proofs.layout.write_line.Goals as goal

pub loop-column-preserved : goal.loop-column-preserved
loop-column-preserved c =
    let line = c.args.line.now in
    let i = c.loop-column.column in
    let cell = c.index-line-column.result in
    let so_far = cells_in (take i line) in
    let start = string_bytes c.args.text.now in
    let long : length (cells_in (take i line)) ≡ i = length-map (take i line) string_bytes ∙ length-take-le i line (omega arith) in
    let more : cells_in (take (i + 1) line) ≡ cells_in (take i line) ++ string_bytes cell ∷ [] =
    map_more string_bytes line i cell c.loop-column-test.true ∙ ap (λ s. cells_in (take i line) ++ string_bytes s ∷ []) (sym c.index-line-column.is) in
    let wide : c.unwrap_or-width.result ≡ get_or c.args.widths.now i 0 = search rules in
    let one = cell_text (get_or c.args.widths.now i 0) i (string_bytes cell) in
    let all = flat_map (λ e. cell_text (get_or c.args.widths.now e.0 0) e.0 e.1) (enumerate_from 0 so_far) in
    c.in_ok-write_cell.ensures
    ∙ ap (λ n. string_bytes c.loop-column.text ++ cell_text n i c.deref.result.now) wide
    ∙ ap (λ s. string_bytes c.loop-column.text ++ cell_text (get_or c.args.widths.now i 0) i s) c.deref.ensures
    ∙ ap (λ t. t ++ one) c.loop-column.invariant
    ∙ append_assoc start all one
    ∙ ap (λ t. start ++ t) (sym (ap (λ cells. flat_map (λ e. cell_text (get_or c.args.widths.now e.0 0) e.0 e.1) (enumerate_from 0 cells)) more
    ∙ cells_more (λ k s. cell_text (get_or c.args.widths.now k 0) k s) so_far (string_bytes cell) i long))
