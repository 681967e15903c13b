use Rattle.std.proofs.Common.{◌≡◌, ◌+◌, ◌-◌, ◌∙◌, [], arith, drop, sym}
use Rattle.span_core.specs.Span.{number_of}
use Rattle.span_times.specs.Measure.{since_opening}
use Rattle.span_times.proofs.Openings.{found_here}
use Rattle.span_times.proofs.measure.since_opening.Goals as goal

pub returns-then-opens : goal.returns-then-opens
returns-then-opens c =
    let i = c.loop-start.start - 1 in
    let next : i + 1 ≡ c.loop-start.start = omega arith in
    let none : since_opening (number_of c.args.id) (drop (i + 1) c.args.points.now) ≡ [] = rw next c.loop-start.invariant in
    found_here (number_of c.args.id) i c.args.points.now _ (omega arith) (sym c.opens.ensures ∙ c.if-opens.true) none
