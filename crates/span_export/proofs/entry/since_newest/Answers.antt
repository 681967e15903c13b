use Rattle.std.proofs.Common.{◌≡◌, ◌∙◌, ◌-◌, arith, drop, false, rules, suc, sym}
use Rattle.std.specs.List.{list_any}
use Rattle.std.proofs.lemmas.List.{take_rest}
use Rattle.span_core.specs.Span.{number_of}
use Rattle.span_export.proofs.Entries.{none_since, since_here}
use Rattle.span_export.specs.Entry.{is_of}
use Rattle.span_export.proofs.entry.since_newest.Goals as goal

pub returns-then-is_of : goal.returns-then-is_of
returns-then-is_of c =
    let lane = c.args.lane.0 in
    let x = number_of c.args.span in
    let es = c.args.entries.now in
    let i = c.loop-place.place - 1 in
    let next : suc i ≡ c.loop-place.place = omega arith in
    let none : list_any (is_of lane x) (drop (suc i) es) ≡ false = rw next c.loop-place.invariant in
    take_rest es i ∙ since_here lane x i es _ (omega arith) (sym c.is_of.ensures ∙ c.if-is_of.true) none

pub returns : goal.returns
returns c =
    let none : list_any (is_of c.args.lane.0 (number_of c.args.span)) c.args.entries.now ≡ false = search rules in
    none_since c.args.lane.0 (number_of c.args.span) c.args.entries.now none
