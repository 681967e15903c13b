use Rattle.std.proofs.Common.{ap, ◌∙◌}
use Rattle.span_layers.specs.Observe.{observer_of}
use Rattle.span_promises.proofs.Sentence.{loses_none_more}
use Rattle.span_promises.proofs.Watched.{finds_room, ready}
use Rattle.span_promises.specs.Watch.{lost_by}
use Rattle.span_promises.proofs.watch.watch_closes.Goals as goal

pub returns-in-Err-clause-memory : goal.returns-in-Err-clause-memory
returns-in-Err-clause-memory c =
    absurd (finds_room c.numbers_are_own.ensures _ _ c.args.level _ _ c.new-3.ensures c.with_filter-layer.ensures c.in-Err.ensures.refused.full)

pub returns-clause-found : goal.returns-clause-found
returns-clause-found c =
    let attached = c.in-Ok.ensures.attached in
    let stands = ready c.numbers_are_own.ensures _ _ c.args.level _ _ c.new-3.ensures c.with_filter-layer.ensures _ attached.numbers attached.room in
    let first = c.new-dispatch.ensures.ready _ stands in
    loses_none_more c.args.requests.now c.in_ok-answers.answers.items c.new-dispatch.result _ (c.in_ok-answers.ensures.served (first.0, first.1))
    ∙ ap (λ x. lost_by (observer_of x)) (c.new-dispatch.ensures.registered.0.2 ∙ attached.layer_as_it_was.1 ∙ c.with_filter-layer.ensures.inner)
    ∙ ap lost_by c.new-2.ensures ∙ c.new.ensures
