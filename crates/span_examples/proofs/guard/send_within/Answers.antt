use Rattle.std.proofs.Common.{rules}
use Rattle.span_examples.proofs.Guards.{keeps_stacks, sends_within}
use Rattle.span_examples.proofs.guard.send_within.Goals as goal

-- However the event was answered, the guard leaves its span.
pub returns-clause-stacks : goal.returns-clause-stacks
returns-clause-stacks g c =
    let kept = keeps_stacks _ _ _ c.args.dispatch.now
    c.enter.new.self _ _ c.drop-span.new.self.0 c.in_ok-enter.ensures.enters.store c.new-span.ensures.over c.event.ensures.span c.drop-span.ensures in
    search (rules, kept)

pub returns-clause-sent : goal.returns-clause-sent
returns-clause-sent g c =
    let within =
    sends_within _ _ _ c.args.dispatch.now c.enter.new.self _ _ c.drop-span.new.self.0 c.args.event.now c.event.result c.in_ok-enter.ensures.enters.store
    c.in_ok-enter.ensures.enters.served c.new-span.ensures.over c.event.ensures.span c.event.ensures.sent c.drop-span.ensures in
    search (rules, within)
