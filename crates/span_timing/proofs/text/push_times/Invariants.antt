use Rattle.std.proofs.Common.{◌≡◌, ◌++◌, ◌∷◌, [], map, take}
use Rattle.span_timing.specs.Histogram.{quantile_in}
use Rattle.span_timing.specs.Unit.{time_text}
use Rattle.span_timing.specs.private.Cells.{cells_in}
use Rattle.span_timing.proofs.text.push_times.Given as goal

-- the percents so far are there
abbrev pub invariant-loop-percent : goal.invariant-loop-percent
invariant-loop-percent l = cells_in l.line.items
    ≡ (cells_in l.fn.line.items ++ l.part ∷ []) ++ map (λ percent. time_text (quantile_in percent 100 l.times)) (take l.percent-index l.percent-items)
