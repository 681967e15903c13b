use Rattle.std.proofs.Common.{subst, sym}
use Rattle.span_dispatch.specs.Serve.{stack_of}
use Rattle.span_core.specs.Event.{event_metadata, event_parent}
use Rattle.span_registry.specs.Hooks.{Stays}
use Rattle.span_shared.proofs.Journalled.{goes_on, stays}
use Rattle.span_shared.specs.declared.entry.EntryWith.TheVariants as entry
use Rattle.span_tracer.proofs.Counted.{after_call, all_ok, no_more, still_registered}
use Rattle.span_tracer.specs.Receiver.{Journalled}
use Rattle.span_tracer.proofs.served.Served.event_anew.Goals as goal

pub invariant_of-self : goal.invariant_of-self
invariant_of-self g c =
    let old = c.self.inside in
    let from = c.learn.new.dispatch in
    let new = c.event-given.new.self in (
      subst (Journalled g.S.LookupSpan.registry g.S.Subscriber.usable new) (sym c.counted.ensures)
          (after_call g.S.LookupSpan.registry g.S.Subscriber.usable from new old.calls c.event-given.result
          (no_more g.S.LookupSpan.registry g.S.Subscriber.usable old.dispatch from old.calls c.self.invariant.0 c.learn.ensures.stack)
          c.event-given.ensures.usable
          (all_ok c.event-given.result (λ made. (
            entry.Event c.args.lane (event_metadata c.args.event) (event_parent c.args.event) made,
            goes_on g.S.LookupSpan.registry Stays (stack_of from) (stack_of new)
                (entry.Event c.args.lane (event_metadata c.args.event) (event_parent c.args.event) made) c.event-given.ensures.sends.store stays,
          ))) c.event-given.ensures.sends.unchanged),
      still_registered from new c.learn.new.table.places c.event-given.ensures.registered c.learn.ensures.registered,
    )

pub returns : goal.returns
returns g c =
    let old = c.self.inside in (
      c.learn.new.dispatch,
      c.event-given.new.self,
      old.calls,
      no_more g.S.LookupSpan.registry g.S.Subscriber.usable old.dispatch c.learn.new.dispatch old.calls c.self.invariant.0 c.learn.ensures.stack,
      c.event-given.ensures.sends,
    )
