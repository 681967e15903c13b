use Rattle.std.proofs.Common.{◌≡◌, ◌∙◌, ◌-◌, ap, arith, drop, false, rules, suc, sym}
use Rattle.std.specs.List.{list_any}
use Rattle.span_core.specs.Span.{number_of}
use Rattle.span_export.proofs.Entries.{left_here, none_left}
use Rattle.span_export.specs.Entry.{is_of, left}
use Rattle.span_export.proofs.entry.leave.Goals as goal

pub returns-then-is_of : goal.returns-then-is_of
returns-then-is_of c =
    let lane = c.args.lane.0 in
    let x = number_of c.args.span in
    let i = c.loop-place.place - 1 in
    let next : suc i ≡ c.loop-place.place = omega arith in
    let none : list_any (is_of lane x) (drop (suc i) c.loop-place.entries.items) ≡ false = rw next c.loop-place.invariant.none in
    let here = ap (is_of lane x) (sym c.index.ensures) ∙ sym c.is_of.ensures ∙ c.if-is_of.true in
    c.remove.ensures.items ∙ left_here lane x i c.loop-place.entries.items c.index.result.now (omega arith) here none
    ∙ ap (λ v. left lane x v.items) c.loop-place.invariant.same

pub returns : goal.returns
returns c =
    let lane = c.args.lane.0 in
    let x = number_of c.args.span in
    let none : list_any (is_of lane x) c.loop-place.entries.items ≡ false = search rules in
    none_left lane x c.loop-place.entries.items none ∙ ap (λ v. left lane x v.items) c.loop-place.invariant.same
