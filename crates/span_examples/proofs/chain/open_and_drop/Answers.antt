use Rattle.span_dispatch.specs.Contract.{SubscriberOf}
use Rattle.span_examples.proofs.Standing.{opens_and_drops, opens_nothing}
use Rattle.span_examples.proofs.chain.open_and_drop.Goals as goal

pub returns-in_err-id-clause-ready : goal.returns-in_err-id-clause-ready
returns-in_err-id-clause-ready g c = λ h. let r = c.new_span.ensures.ready.again h.0 h.1 in (r.0, r.1)

pub returns-in_default-clause-ready : goal.returns-in_default-clause-ready
returns-in_default-clause-ready g c = λ h. let r = c.new_span.ensures.ready.again h.0 h.1 in (r.0, r.1)

pub returns-in_default-clause-served : goal.returns-in_default-clause-served
returns-in_default-clause-served g c =
    let s : SubscriberOf g.row.S.Denot = record {
      registry = g.S.LookupSpan.registry;
      with_registry = g.S.LookupSpan.with_registry;
      usable = g.S.Subscriber.usable;
      has_form = g.S.Subscriber.has_form;
      stepped = g.S.Subscriber.stepped;
      hears = g.S.Subscriber.hears;
      acts_at = g.S.Subscriber.acts_at;
      reloaded = g.S.Subscriber.reloaded;
      registered = g.S.Subscriber.registered;
    } in
    opens_nothing s c.args.lane c.args.attrs.now _ _ _ c.in_default.is c.in_ok-id.ensures.opens.served c.new_span.ensures.ready

pub returns-clause-served : goal.returns-clause-served
returns-clause-served g c =
    let s : SubscriberOf g.row.S.Denot = record {
      registry = g.S.LookupSpan.registry;
      with_registry = g.S.LookupSpan.with_registry;
      usable = g.S.Subscriber.usable;
      has_form = g.S.Subscriber.has_form;
      stepped = g.S.Subscriber.stepped;
      hears = g.S.Subscriber.hears;
      acts_at = g.S.Subscriber.acts_at;
      reloaded = g.S.Subscriber.reloaded;
      registered = g.S.Subscriber.registered;
    } in
    opens_and_drops s c.args.lane c.args.attrs.now c.in-Some.id
    _ _ _ _ _ c.in-Some.is c.in_ok-id.ensures.opens.served c.new_span.ensures.ready c.in_ok-drop_span.ensures.drops.served c.drop_span.ensures.ready
