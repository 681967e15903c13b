use Rattle.span_promises.proofs.Sentence.{parents_last}
use Rattle.span_promises.proofs.laws.parents_close_last.Goals as goal

pub returns : goal.returns
returns g c =
    parents_last (record {
      registry = g.S.LookupSpan.registry;
      with_registry = g.S.LookupSpan.with_registry;
      usable = g.S.Subscriber.usable;
      has_form = g.S.Subscriber.has_form;
      stepped = g.S.Subscriber.stepped;
      hears = g.S.Subscriber.hears;
      acts_at = g.S.Subscriber.acts_at;
      reloaded = g.S.Subscriber.reloaded;
      registered = g.S.Subscriber.registered;
    })
