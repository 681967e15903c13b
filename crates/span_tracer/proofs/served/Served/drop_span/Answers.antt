use Rattle.std.proofs.Common.{ap, subst, sym}
use Rattle.span_dispatch.specs.Serve.{stack_of}
use Rattle.span_shared.specs.declared.entry.EntryWith.TheVariants as entry
use Rattle.span_tracer.specs.Receiver.{Journalled}
use Rattle.span_dispatch.proofs.CallerLemmas.{registered_by_stack}
use Rattle.span_shared.proofs.Journalled.{drops_on}
use Rattle.span_tracer.proofs.Counted.{after_call, if_ok, on_err, still_registered}
use Rattle.span_tracer.proofs.served.Served.drop_span.Goals as goal

pub invariant_of-self : goal.invariant_of-self
invariant_of-self g c =
    let old = c.self.inside in
    let new = c.drop_span-given.new.self in (
      subst (Journalled g.S.LookupSpan.registry g.S.Subscriber.usable new) (sym c.counted.ensures)
          (after_call
          g.S.LookupSpan.registry g.S.Subscriber.usable old.dispatch new old.calls c.drop_span-given.result c.self.invariant.0 c.drop_span-given.ensures.usable
          (if_ok c.drop_span-given.result (λ closes h. (
            entry.Drop c.args.lane c.args.id closes,
            drops_on g.S.LookupSpan.registry (stack_of old.dispatch) (stack_of new) c.args.lane c.args.id closes
                (h c.self.invariant.0.1.settled) c.drop_span-given.ensures.drops.settled,
          )) c.drop_span-given.ensures.drops.store)
          (on_err c.drop_span-given.result (λ same. ap stack_of same) c.drop_span-given.ensures.drops.unchanged)),
      still_registered old.dispatch new old.callsites.places (registered_by_stack old.dispatch new c.drop_span-given.ensures.drops.rest) c.self.invariant.1,
    )
