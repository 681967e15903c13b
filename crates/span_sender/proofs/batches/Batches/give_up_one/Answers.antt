use Rattle.std.proofs.Common.{◌∷◌, [], refl, length, String, List, ◌≡◌, ap}
use Rattle.std.specs.declared.alloc.Global.{Global}
use Rattle.span_sender.specs.Run.{GaveUp, Took}
use Rattle.span_sender.specs.Batches.{HasRoom, held_by}
use Rattle.span_sender.proofs.Sending.{Sends-trans, one}
use Rattle.span_sender.proofs.batches.Batches.give_up_one.Goals as goal

pub returns-clause-sends : goal.returns-clause-sends
returns-clause-sends c = λ known.
    let none : length (held_by c.args.self.now) ≡ 0 = ap (λ (xs : List (String Global)). length xs) c.requires in
    let room : HasRoom c.args.self.now = rw none c.args.self.now.config.room in
    let took = one _ _ (Took c.args.span) known refl (c.push.ensures.taken (c.push.ensures.room.1 room)) in
    Sends-trans _ _ _ _ _ _ (c.args.span ∷ []) [] took (one _ _ (GaveUp (held_by c.push.new.self)) known refl (refl, c.give_up.ensures))
