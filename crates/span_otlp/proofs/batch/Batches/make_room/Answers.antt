use Rattle.std.proofs.Common.{◌≤◌, arith, length, max, rules}
use Rattle.std.proofs.lemmas.Grind.{common_steps}
use Rattle.span_otlp.proofs.Batches.{after_send, on_done}
use Rattle.span_otlp.proofs.batch.Batches.make_room.Goals as goal

pub returns-then-len-max : goal.returns-then-len-max
returns-then-len-max c =
    let full : max 1 c.args.plan.most ≤ length c.args.self.now.waiting.items =
    first_of (omega (arith, c.len.ensures, c.max.ensures), first_of (grind (arith, common_steps), search rules)) in
    on_done c.send.result c.send.ensures (λ h all s. after_send c.args.plan all c.args.self.now c.send.new.self s full h)
