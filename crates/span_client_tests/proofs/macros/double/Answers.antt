use Rattle.span_macros.proofs.CallerLemmas.{ready_after}
use Rattle.span_client_tests.proofs.macros.double.Goals as goal

pub returns-in_err-event-clause-ready : goal.returns-in_err-event-clause-ready
returns-in_err-event-clause-ready g c = ready_after _ _ _ _ c.in_span-open_and_enter.ensures.ready c.event.ensures.ready

pub returns-2-clause-ready : goal.returns-2-clause-ready
returns-2-clause-ready g c =
    let sent = ready_after _ _ _ _ c.in_span-open_and_enter.ensures.ready c.event.ensures.ready in
    ready_after _ _ _ _ sent c.in_span-exit_and_drop.ensures.ready

pub returns-3-clause-ready : goal.returns-3-clause-ready
returns-3-clause-ready g c =
    let sent = ready_after _ _ _ _ c.in_span-open_and_enter.ensures.ready c.event.ensures.ready in
    ready_after _ _ _ _ sent c.in_span-exit_and_drop.ensures.ready
