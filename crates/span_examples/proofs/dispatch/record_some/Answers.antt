use Rattle.span_examples.proofs.Recorded.{has_room_at_first, in_use, served_three, starts}
use Rattle.span_examples.proofs.dispatch.record_some.Goals as goal

pub returns-clause-kept : goal.returns-clause-kept
returns-clause-kept c =
    let a = c.in-Ok.ensures.attached in
    let new =
    starts c.numbers_are_own.ensures c.args.level _ _ _ _ _ c.new-2.ensures c.new.ensures c.with_filter-layer.ensures a.numbers a.room a.layer_as_it_was in
    let fresh = in_use _ _ _ new (λ k. let r = c.uncached-dispatch.ensures.ready k.0 k.1 in (r.0, r.1.stack)) c.uncached-dispatch.ensures.registered.0 in
    let ready = c.uncached-dispatch.ensures.ready new.ready.0 new.ready.1 in
    served_three c.args.level c.args.lane c.args.outer c.args.inner
    c.args.event _ _ _ _ _ _ c.uncached-dispatch.result _ fresh c.uncached-dispatch.ensures.kept.callsites (c.in_ok-answers.ensures.served (ready.0, ready.1))

pub returns-in-Err-clause-memory : goal.returns-in-Err-clause-memory
returns-in-Err-clause-memory c = absurd (has_room_at_first _ _ _ _ _ c.new-2.ensures c.with_filter-layer.ensures c.in-Err.ensures.refused.full)
