use Rattle.std.proofs.Common.{refl}
use Rattle.span_stacks.proofs.Parts.{stack_notified}
use Rattle.span_stacks.proofs.stack.LayeredSubscriber.new_span.Goals as goal

pub returns-in-Ok-clause-opened : goal.returns-in-Ok-clause-opened
returns-in-Ok-clause-opened g c =
    stack_notified g.L.Layer.stepped g.I.Subscriber.stepped g.L.Layer.has_form g.I.Subscriber.has_form
    c.in-Ok.ensures.opened c.new-ctx.ensures.lent refl c.notify.ensures.rest c.notify.ensures.alone c.notify.ensures.hook
