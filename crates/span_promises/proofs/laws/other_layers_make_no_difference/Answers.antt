use Rattle.span_dispatch.proofs.Acting.{paths_itself}
use Rattle.span_promises.proofs.Isolation.{outcomes_same}
use Rattle.span_promises.proofs.MadeCall.{calls_same}
use Rattle.span_promises.proofs.laws.other_layers_make_no_difference.Goals as goal

pub returns-clause-itself : goal.returns-clause-itself
returns-clause-itself g c = paths_itself

pub returns-clause-of_outcomes : goal.returns-clause-of_outcomes
returns-clause-of_outcomes g c =
    outcomes_same _ _ g.met.S.Subscriber.paths g.met.S.Subscriber.reloads g.met.T.Subscriber.paths g.met.T.Subscriber.reloads

pub returns-clause-of_requests : goal.returns-clause-of_requests
returns-clause-of_requests g c =
    let store = c.in_store_while_open_or_closing.ensures in
    calls_same _ _ g.met.S.Subscriber.paths g.met.T.Subscriber.paths store.in_store store.not_both c.closes_once.ensures
