use Rattle.std.proofs.Common.{ap, subst, sym}
use Rattle.span_dispatch.specs.Serve.{stack_of}
use Rattle.span_shared.specs.Journal.{Entry}
use Rattle.span_shared.specs.declared.entry.EntryWith.TheVariants as entry
use Rattle.span_tracer.specs.Receiver.{Journalled}
use Rattle.span_dispatch.proofs.CallerLemmas.{registered_by_stack}
use Rattle.span_shared.proofs.Journalled.{clones}
use Rattle.span_tracer.proofs.Counted.{after_call, on_err, on_ok, still_registered}
use Rattle.span_tracer.proofs.served.Served.clone_span.Goals as goal

pub invariant_of-self : goal.invariant_of-self
invariant_of-self g c =
    let old = c.self.inside in
    let new = c.clone_span-given.new.self in
    let e : Entry = entry.Clone c.args.lane c.args.id in (
      subst (Journalled g.S.LookupSpan.registry g.S.Subscriber.usable new) (sym c.counted.ensures)
          (after_call g.S.LookupSpan.registry
          g.S.Subscriber.usable old.dispatch new old.calls c.clone_span-given.result c.self.invariant.0 c.clone_span-given.ensures.usable
          (on_ok c.clone_span-given.result
          (λ u h. (e, clones c.args.lane c.args.id (g.S.LookupSpan.registry (stack_of old.dispatch)) (g.S.LookupSpan.registry (stack_of new)) h.0))
          c.clone_span-given.ensures.clones.store)
          (on_err c.clone_span-given.result (λ same. ap stack_of same) c.clone_span-given.ensures.clones.unchanged)),
      still_registered old.dispatch new old.callsites.places (registered_by_stack old.dispatch new c.clone_span-given.ensures.clones.rest) c.self.invariant.1,
    )
