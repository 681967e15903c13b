use Rattle.std.proofs.Common.{◌∷◌, [], refl}
use Rattle.span_sender.specs.Run.{Took}
use Rattle.span_sender.proofs.Sending.{one}
use Rattle.span_sender.proofs.Worked.{goes_on}
use Rattle.span_sender.proofs.worker.Worker.take_next.Goals as goal

pub returns : goal.returns
returns g c = λ first h.
    let room = c.has_room.ensures.0 c.if-not-has_room.false in
    goes_on g.P.Poster.posted first _ _ (c.in-Ok.span ∷ []) h c.in-Ok.ensures.ring c.in-Ok.ensures.ok.0
    (one _ _ (Took c.in-Ok.span) _ refl (c.push.ensures.taken (c.push.ensures.room.1 room)))
