use Rattle.std.proofs.Common.{subst, sym}
use Rattle.span_dispatch.specs.Serve.{stack_of}
use Rattle.span_core.specs.Event.{event_metadata, event_parent}
use Rattle.span_registry.specs.Hooks.{Stays}
use Rattle.span_shared.proofs.Journalled.{goes_on, stays}
use Rattle.span_shared.specs.declared.entry.EntryWith.TheVariants as entry
use Rattle.span_tracer.proofs.Counted.{after_call, all_ok, still_registered}
use Rattle.span_tracer.specs.Receiver.{Journalled}
use Rattle.span_tracer.proofs.served.Served.event.Goals as goal

pub invariant_of-self : goal.invariant_of-self
invariant_of-self g c =
    let old = c.self.inside in
    let from = old.dispatch in
    let new = c.event_by-given.new.self in (
      subst (Journalled g.S.LookupSpan.registry g.S.Subscriber.usable new) (sym c.counted.ensures)
          (after_call
          g.S.LookupSpan.registry g.S.Subscriber.usable from new old.calls c.event_by-given.result c.self.invariant.0 c.event_by-given.ensures.usable
          (all_ok c.event_by-given.result (λ made. (
            entry.Event c.args.lane (event_metadata c.args.event.now) (event_parent c.args.event.now) made,
            goes_on g.S.LookupSpan.registry Stays (stack_of from) (stack_of new)
                (entry.Event c.args.lane (event_metadata c.args.event.now) (event_parent c.args.event.now) made) c.event_by-given.ensures.sends.store stays,
          ))) c.event_by-given.ensures.sends.unchanged),
      still_registered from new old.callsites.places c.event_by-given.ensures.registered c.self.invariant.1,
    )

pub event_by-given-requires-clause-known : goal.event_by-given-requires-clause-known
event_by-given-requires-clause-known g c = c.self.invariant.1 _ _ c.in-Some.ensures.there
