use Rattle.std.specs.Option.{option_copied}
use Rattle.span_targets.proofs.Takes.{meant, wrong}
use Rattle.span_targets.proofs.targets.Targets.take.Goals as goal

pub returns-in_ok-set-in-Ok : goal.returns-in_ok-set-in-Ok
returns-in_ok-set-in-Ok c =
    let said = c.in-Ok.said in
    meant c.args.number
    _ (option_copied said.target, said.level) c.args.self.now c.set.new.self c.args.wrong.now.items c.in-Ok.ensures c.in_ok-set-in-Ok.ensures

pub returns-in_ok-push-in-Err : goal.returns-in_ok-push-in-Err
returns-in_ok-push-in-Err c =
    wrong c.args.number _ c.in-Err.fault c.args.self.now c.args.wrong.now.items c.push.new.self.items c.in-Err.ensures c.in_ok-push-in-Err.ensures.items
