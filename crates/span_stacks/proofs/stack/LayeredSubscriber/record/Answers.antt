use Rattle.span_stacks.proofs.Parts.{stack_notified}
use Rattle.span_stacks.proofs.stack.LayeredSubscriber.record.Goals as goal

pub returns-clause-hooks : goal.returns-clause-hooks
returns-clause-hooks g c =
    stack_notified g.L.Layer.stepped g.I.Subscriber.stepped g.L.Layer.has_form g.I.Subscriber.has_form
    c.record.ensures.hooks c.new-ctx.ensures.lent (λ i n. c.new.ensures.refused n i) c.notify.ensures.rest c.notify.ensures.alone c.notify.ensures.hook
