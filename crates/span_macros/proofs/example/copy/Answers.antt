use Rattle.std.proofs.Common.{inl, rules}
use Rattle.span_macros.proofs.CallerLemmas.{ready_after}
use Rattle.span_macros.proofs.example.copy.Goals as goal

pub returns-in_err-exit_and_drop-clause-ready : goal.returns-in_err-exit_and_drop-clause-ready
returns-in_err-exit_and_drop-clause-ready g c =
    let sent = ready_after _ _ _ _ c.open_and_enter.ensures.ready c.event.ensures.ready in
    ready_after _ _ _ _ sent c.exit_and_drop.ensures.ready

pub returns-in_err-exit_and_drop-clause-sent : goal.returns-in_err-exit_and_drop-clause-sent
returns-in_err-exit_and_drop-clause-sent g c = (
  c.new-attrs.result,
  search rules,
  inl (record {
    made = c.in_ok-made.made;
    within = c.open_and_enter.new.dispatch;
    ended = c.event.new.self;
    value = c.event.result;
    closes = c.exit_and_drop.result;
    entered = c.in_ok-made.ensures.opens.entered;
    block = search rules;
    left = c.exit_and_drop.ensures.left;
    given = search rules;
  }),
)

pub returns-clause-ready : goal.returns-clause-ready
returns-clause-ready g c =
    let sent = ready_after _ _ _ _ c.open_and_enter.ensures.ready c.event.ensures.ready in
    ready_after _ _ _ _ sent c.exit_and_drop.ensures.ready

pub returns-clause-sent : goal.returns-clause-sent
returns-clause-sent g c = (
  c.new-attrs.result,
  search rules,
  inl (record {
    made = c.in_ok-made.made;
    within = c.open_and_enter.new.dispatch;
    ended = c.event.new.self;
    value = c.event.result;
    closes = c.exit_and_drop.result;
    entered = c.in_ok-made.ensures.opens.entered;
    block = search rules;
    left = c.exit_and_drop.ensures.left;
    given = search rules;
  }),
)
