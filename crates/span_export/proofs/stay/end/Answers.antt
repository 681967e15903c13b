use Rattle.std.proofs.Common.{◌≡◌, ◌∙◌, ◌-◌, ap, arith, drop, false, rules, suc, sym}
use Rattle.std.specs.List.{list_any}
use Rattle.span_core.specs.Span.{number_of}
use Rattle.span_export.proofs.Ended.{ended_here, none_ended}
use Rattle.span_export.proofs.stay.end.Goals as goal
use Rattle.span_export.specs.Picture.{ended, lasts_in}

pub returns-then-lasts_in : goal.returns-then-lasts_in
returns-then-lasts_in c =
    let i = c.loop-place.place - 1 in
    let next : suc i ≡ c.loop-place.place = omega arith in
    let none : list_any (lasts_in c.args.lane.0 (number_of c.args.span)) (drop (suc i) c.loop-place.stays) ≡ false = rw next c.loop-place.invariant.1 in
    ended_here c.args.lane.0 (number_of c.args.span) c.args.time i c.loop-place.stays _ (omega arith) (sym c.lasts_in.ensures ∙ c.if-lasts_in.true) none
    ∙ ap (ended c.args.lane.0 (number_of c.args.span) c.args.time) c.loop-place.invariant.0

pub returns : goal.returns
returns c =
    let none : list_any (lasts_in c.args.lane.0 (number_of c.args.span)) c.loop-place.stays ≡ false = search rules in
    none_ended c.args.lane.0 (number_of c.args.span) c.args.time c.loop-place.stays none
    ∙ ap (ended c.args.lane.0 (number_of c.args.span) c.args.time) c.loop-place.invariant.0
