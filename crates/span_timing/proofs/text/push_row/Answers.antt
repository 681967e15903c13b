use Rattle.std.proofs.Common.{◌≡◌, ◌∙◌, ◌++◌, ◌∷◌, [], ap, append_assoc, codes, decimal, sym}
use Rattle.std.specs.Option.{option_copied, option_map_or}
use Rattle.span_timing.proofs.Pushed.{pushed}
use Rattle.span_timing.specs.Histogram.{counted}
use Rattle.span_timing.specs.Text.{called, further_line, span_lines, times_cells}
use Rattle.span_timing.specs.private.Cells.{cells_in, lines_in}
use Rattle.span_times.specs.Measure.{capped}
use Rattle.span_timing.proofs.text.push_row.Goals as goal

pub returns : goal.returns
returns c =
    let old = lines_in c.args.lines.now.items in
    let row = c.in-Some.row.now in
    let name = called c.args.sites.now c.args.callsite in
    let count = decimal (capped (counted row.open)) ∷ [] in
    let times = times_cells (codes "open") row.open in
    let busy = further_line (codes "busy") row.busy in
    let idle = further_line (codes "idle") row.idle in
    let first : cells_in c.push_times.new.line.items ≡ name ++ (count ++ times) =
    c.in_ok-push_times.ensures
    ∙ ap (λ cells. cells ++ times) (c.in_ok-first.ensures ∙ ap (λ n. name ++ decimal n ∷ []) c.count.ensures)
    ∙ append_assoc name count times in
    let one = pushed c.args.lines.now.items c.push.new.self.items c.push_times.new.line (name ++ (count ++ times)) c.in_ok-push.ensures.items first in
    let two =
    pushed c.push.new.self.items c.push-2.new.self.items c.in_ok-further_line.field-0 busy c.in_ok-push-2.ensures.items c.in_ok-further_line.ensures in
    let three =
    pushed c.push-2.new.self.items c.push-3.new.self.items c.in_ok-further_line-2.field-0 idle c.in_ok-push-3.ensures.items c.in_ok-further_line-2.ensures in
    three ∙ ap (λ ls. ls ++ idle ∷ []) (two ∙ ap (λ ls. ls ++ busy ∷ []) one)
    ∙ append_assoc (old ++ (name ++ (count ++ times)) ∷ []) (busy ∷ []) (idle ∷ [])
    ∙ append_assoc old ((name ++ (count ++ times)) ∷ []) (busy ∷ idle ∷ [])
    ∙ sym (ap (λ found. old ++ option_map_or (span_lines c.args.sites.now c.args.callsite) (option_copied found) []) c.in-Some.is)
