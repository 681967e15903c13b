use Rattle.std.proofs.Common.{Ok, ap}
use Rattle.span_shared.proofs.Journalled.{some_did, some_refused}
use Rattle.span_shared.specs.Logged.{AddsEntry, Logs, NeverRefused, ShowsSpan, current_entry}
use Rattle.span_shared.proofs.shared.Shared.current_span.Goals as goal

pub returns-clause-logs : goal.returns-clause-logs
returns-clause-logs g c =
    some_did
    (record {
      registry = g.S.LookupSpan.registry;
      with_registry = g.S.LookupSpan.with_registry;
      usable = g.S.Subscriber.usable;
      has_form = g.S.Subscriber.has_form;
      stepped = g.S.Subscriber.stepped;
      hears = g.S.Subscriber.hears;
      acts_at = g.S.Subscriber.acts_at;
      reloaded = g.S.Subscriber.reloaded;
      registered = g.S.Subscriber.registered;
    })
    (λ s lane. Logs (NeverRefused (ShowsSpan s lane)) (AddsEntry (current_entry lane)))
    c.worker.inside.lane c.args.worker.now.lane c.deref_mut.result.now.logged c.current_span.new.self
    (Ok c.in_ok-given.given) c.in_ok-given.ensures.logs (ap (λ w. w.lane) c.worker.view_is) c.stands.ensures

pub returns-in_err-given-clause-logs : goal.returns-in_err-given-clause-logs
returns-in_err-given-clause-logs g c =
    some_refused
    (record {
      registry = g.S.LookupSpan.registry;
      with_registry = g.S.LookupSpan.with_registry;
      usable = g.S.Subscriber.usable;
      has_form = g.S.Subscriber.has_form;
      stepped = g.S.Subscriber.stepped;
      hears = g.S.Subscriber.hears;
      acts_at = g.S.Subscriber.acts_at;
      reloaded = g.S.Subscriber.reloaded;
      registered = g.S.Subscriber.registered;
    })
    (λ s lane. Logs (NeverRefused (ShowsSpan s lane)) (AddsEntry (current_entry lane)))
    c.worker.inside.lane c.args.worker.now.lane c.deref_mut.result.now.logged c.current_span.new.self
    c.in_err-given.field-0.0 c.from_residual.result c.from_residual.ensures.1 c.in_err-given.ensures.logs
    (ap (λ w. w.lane) c.worker.view_is) c.stands.ensures
