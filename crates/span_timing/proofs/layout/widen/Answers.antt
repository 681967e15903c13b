use Rattle.std.proofs.Common.{arith, ◌≡◌, ◌∙◌, ◌<◌, ◌≤◌, ⊎_elim, [], ap, get_or, length, string_bytes}
use Rattle.std.proofs.lemmas.Bool.{cases_lt}
use Rattle.std.proofs.lemmas.List.{get_or_past, length-map}
use Rattle.std.proofs.lemmas.Str.{chars-nil}
use Rattle.span_timing.specs.Layout.{width_of}
use Rattle.span_timing.specs.private.Cells.{cells_in}
use Rattle.span_timing.proofs.layout.widen.Goals as goal

pub returns : goal.returns
returns c = λ k.
    let line = c.args.line.now in
    let i = c.loop-column.column in
    let long = length-map line string_bytes in
    ⊎_elim (λ (within : k < i). c.loop-column.invariant.wide k within)
    (λ (behind : i ≤ k).
    let none : width_of (get_or (cells_in line) k []) ≡ 0 = ap width_of (get_or_past (cells_in line) k [] (omega arith)) ∙ ap length chars-nil in
    let same = c.loop-column.invariant.others k behind in
    omega arith)
    (cases_lt k i)
