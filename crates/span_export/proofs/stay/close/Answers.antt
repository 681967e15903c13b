use Rattle.std.proofs.Common.{◌∙◌, ◌<◌, None, ap, arith, get_or, length, set}
use Rattle.std.proofs.lemmas.List.Edits.{map_over_more}
use Rattle.std.proofs.lemmas.List.{get_or_default}
use Rattle.span_core.specs.Span.{number_of}
use Rattle.span_export.specs.Picture.{closed_by}
use Rattle.span_export.specs.declared.stay.Stay.{Stay}
use Rattle.span_export.proofs.stay.close.Goals as goal

pub loop-stay-preserved : goal.loop-stay-preserved
loop-stay-preserved c =
    let f = closed_by (number_of c.args.span) c.args.time in
    let now = c.loop-stay.stays in
    let i = c.loop-stay.stay-index in
    let none : Stay = record { lane = record { 0 = 0 }; depth = 0; span = record { number = 0 }; entered = 0; left = None } in
    let within : i < length now = omega arith in
    let x = get_or now i none in
    ap (set now i) c.closed.ensures
    ∙ map_over_more f c.args.stays.now now i x (omega arith) c.loop-stay.invariant (get_or_default now i none x within)
