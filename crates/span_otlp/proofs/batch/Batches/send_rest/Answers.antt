use Rattle.std.proofs.Common.{◌≡◌, ◌<◌, arith, length}
use Rattle.span_otlp.proofs.Batches.{at_end, at_once, nothing_there, on_done}
use Rattle.span_otlp.proofs.batch.Batches.send_rest.Goals as goal

pub returns-then-is_empty : goal.returns-then-is_empty
returns-then-is_empty c =
    let empty : length c.args.self.now.waiting.items ≡ 0 = grind (arith, c.is_empty.ensures, c.if-is_empty.true) in
    λ all s. at_once c.args.plan all c.args.self.now s (nothing_there c.args.self.now.waiting.items empty)

pub returns : goal.returns
returns c =
    let some : 0 < length c.args.self.now.waiting.items = grind (arith, c.is_empty.ensures, c.if-is_empty.false) in
    on_done c.send.result c.send.ensures (λ h all s. at_end c.args.plan all c.args.self.now c.send.new.self s some h)
