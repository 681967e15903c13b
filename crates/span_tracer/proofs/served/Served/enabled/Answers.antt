use Rattle.std.proofs.Common.{ap, subst, sym}
use Rattle.span_dispatch.specs.Serve.{stack_of}
use Rattle.span_shared.specs.declared.entry.EntryWith.TheVariants as entry
use Rattle.span_tracer.specs.Receiver.{Journalled}
use Rattle.span_shared.proofs.Journalled.{stays}
use Rattle.span_tracer.proofs.Counted.{after_call, all_err, all_ok, still_registered}
use Rattle.span_tracer.proofs.served.Served.enabled.Goals as goal

pub invariant_of-self : goal.invariant_of-self
invariant_of-self g c =
    let old = c.self.inside in
    let new = c.enabled-given.new.self in (
      subst (Journalled g.S.LookupSpan.registry g.S.Subscriber.usable new) (sym c.counted.ensures)
          (after_call g.S.LookupSpan.registry g.S.Subscriber.usable old.dispatch
          new old.calls c.enabled-given.result c.self.invariant.0 (subst g.S.Subscriber.usable (sym c.enabled-given.ensures.stack) c.self.invariant.0.1.may)
          (all_ok c.enabled-given.result (λ said. (
            entry.Probe c.args.lane c.args.meta.now said,
            stays (g.S.LookupSpan.registry (stack_of old.dispatch)) (g.S.LookupSpan.registry (stack_of new))
                (ap g.S.LookupSpan.registry c.enabled-given.ensures.stack),
          )))
          (all_err c.enabled-given.result c.enabled-given.ensures.stack)),
      still_registered old.dispatch new old.callsites.places c.enabled-given.ensures.registered c.self.invariant.1,
    )
