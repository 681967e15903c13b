use Rattle.std.proofs.Common.{ap, subst, sym}
use Rattle.span_dispatch.specs.Serve.{stack_of}
use Rattle.span_shared.specs.Journal.{Entry}
use Rattle.span_shared.specs.declared.entry.EntryWith.TheVariants as entry
use Rattle.span_tracer.specs.Receiver.{Journalled}
use Rattle.span_dispatch.proofs.CallerLemmas.{registered_by_stack}
use Rattle.span_shared.proofs.Journalled.{goes_on, enters}
use Rattle.span_store.specs.Step.{Enters}
use Rattle.span_tracer.proofs.Counted.{after_call, on_err, on_ok, still_registered}
use Rattle.span_tracer.proofs.served.Served.enter.Goals as goal

pub invariant_of-self : goal.invariant_of-self
invariant_of-self g c =
    let old = c.self.inside in
    let new = c.enter-given.new.self in
    let e : Entry = entry.Enter c.args.lane c.args.id in (
      subst (Journalled g.S.LookupSpan.registry g.S.Subscriber.usable new) (sym c.counted.ensures)
          (after_call
          g.S.LookupSpan.registry g.S.Subscriber.usable old.dispatch new old.calls c.enter-given.result c.self.invariant.0 c.enter-given.ensures.usable
          (on_ok c.enter-given.result
          (λ u h. (e, goes_on g.S.LookupSpan.registry (Enters c.args.lane c.args.id) (stack_of old.dispatch) (stack_of new) e h (enters c.args.lane c.args.id)))
          c.enter-given.ensures.enters.store)
          (on_err c.enter-given.result (λ same. ap stack_of same) c.enter-given.ensures.enters.unchanged)),
      still_registered old.dispatch new old.callsites.places (registered_by_stack old.dispatch new c.enter-given.ensures.enters.rest) c.self.invariant.1,
    )
