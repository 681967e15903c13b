use Rattle.span_macros.proofs.CallerLemmas.{ready_after, ready_still}
use Rattle.span_macros.proofs.Settled.{left_settled, settled_left}
use Rattle.span_macros.proofs.span.exit_and_drop.Goals as goal

pub returns-in_default-clause-ready : goal.returns-in_default-clause-ready
returns-in_default-clause-ready g c = ready_still _ _

pub returns-clause-ready : goal.returns-clause-ready
returns-clause-ready g c = ready_after _ _ _ _ c.exit.ensures.ready c.drop_span.ensures.ready

pub returns-clause-settled : goal.returns-clause-settled
returns-clause-settled g c = λ h. c.drop_span.ensures.drops.settled (settled_left g.S.LookupSpan.registry _ _ _ _ c.exit.ensures.exits.store h)

pub returns-clause-left : goal.returns-clause-left
returns-clause-left g c =
    rw c.in-Some.is (record {
      between = c.exit.new.self;
      left = c.exit.ensures.exits;
      dropped = c.drop_span.ensures.drops;
      step = left_settled g.S.LookupSpan.registry _ _ _ _ _ c.drop_span.result c.exit.ensures.exits.store c.drop_span.ensures.drops.store;
    })
