use Rattle.span_dispatch.proofs.Calls.{used_so}
use Rattle.span_dispatch.proofs.Goes.{first_ready}
use Rattle.span_dispatch.proofs.dispatch.Dispatch.new.Goals as goal

pub returns-clause-ready : goal.returns-clause-ready
returns-clause-ready g c =
    let used = used_so g.met.S.Subscriber.laws g.met.S.LookupSpan.with_own g.S.Subscriber.reloaded in
    λ f k. first_ready g.S.LookupSpan.registry g.S.LookupSpan.with_registry g.S.Subscriber.has_form g.S.Subscriber.stepped g.S.Subscriber.reloaded
    f c.args.stack _ (used f c.args.stack c.put_in_use.result c.put_in_use.ensures.registered c.put_in_use.ensures.registry k) (λ h n. tt)
