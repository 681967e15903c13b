use Rattle.std.proofs.Common.{◌+◌, ◌∙◌, Err, Ok, ap, length, sym}
use Rattle.span_shared.proofs.Journalled.{call_grows, some_did, some_refused}
use Rattle.span_shared.specs.Logged.{LogsCall}
use Rattle.span_shared.proofs.shared.Shared.ask.Goals as goal

pub invariant_of-deref_mut : goal.invariant_of-deref_mut
invariant_of-deref_mut g c =
    let old = c.deref_mut.result.now in
    let same = call_grows _ c.worker.inside.lane c.args.call.now (Err c.in_err-given.field-0.0) old.logged c.ask.new.self c.in_err-given.ensures.logs in
    record { counted = old.counted ∙ ap length (sym same) }

pub invariant_of-calls : goal.invariant_of-calls
invariant_of-calls g c =
    let old = c.deref_mut.result.now in
    let more = call_grows _ c.worker.inside.lane c.args.call.now (Ok c.in_ok-given.given) old.logged c.ask.new.self c.in_ok-given.ensures.logs in
    record { counted = c.count.ensures.book ∙ ap (λ n. n + 1) old.counted ∙ sym more }

pub returns-clause-logs : goal.returns-clause-logs
returns-clause-logs g c =
    some_did _ (λ s lane. LogsCall s lane c.args.call.now)
    c.worker.inside.lane c.args.worker.now.lane c.deref_mut.result.now.logged c.ask.new.self
    (Ok c.in_ok-given.given) c.in_ok-given.ensures.logs (ap (λ w. w.lane) c.worker.view_is) c.stands.ensures

pub returns-in_err-given-clause-logs : goal.returns-in_err-given-clause-logs
returns-in_err-given-clause-logs g c =
    some_refused _ (λ s lane. LogsCall s lane c.args.call.now)
    c.worker.inside.lane c.args.worker.now.lane c.deref_mut.result.now.logged c.ask.new.self
    c.in_err-given.field-0.0 c.from_residual.result c.from_residual.ensures.1 c.in_err-given.ensures.logs
    (ap (λ w. w.lane) c.worker.view_is) c.stands.ensures
