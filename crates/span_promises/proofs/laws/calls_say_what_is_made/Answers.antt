use Rattle.span_dispatch.proofs.Acting.{steps_agree}
use Rattle.span_promises.proofs.MadeCall.{same_outcomes, same_outcomes_all}
use Rattle.span_promises.proofs.laws.calls_say_what_is_made.Goals as goal

pub returns-clause-one : goal.returns-clause-one
returns-clause-one c =
    let store = c.in_store_while_open_or_closing.ensures in same_outcomes store.in_store store.not_both c.closes_once.ensures

pub returns-clause-all : goal.returns-clause-all
returns-clause-all c =
    let store = c.in_store_while_open_or_closing.ensures in same_outcomes_all store.in_store store.not_both c.closes_once.ensures

pub returns-clause-step : goal.returns-clause-step
returns-clause-step c = λ o cs ds s t u v. steps_agree cs ds o s t u v
