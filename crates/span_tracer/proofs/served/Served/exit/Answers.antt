use Rattle.std.proofs.Common.{subst, sym}
use Rattle.span_dispatch.proofs.CallerLemmas.{registered_by_stack}
use Rattle.span_dispatch.specs.Serve.{stack_of}
use Rattle.span_shared.proofs.Journalled.{exits, goes_on}
use Rattle.span_shared.specs.Journal.{Entry}
use Rattle.span_shared.specs.declared.entry.EntryWith.TheVariants as entry
use Rattle.span_store.specs.Step.{Exits}
use Rattle.span_tracer.proofs.Counted.{one_more, still_registered}
use Rattle.span_tracer.specs.Receiver.{Journalled}
use Rattle.span_tracer.proofs.served.Served.exit.Goals as goal

pub invariant_of-self : goal.invariant_of-self
invariant_of-self g c =
    let old = c.self.inside in
    let new = c.exit.new.self in
    let e : Entry = entry.Exit c.args.lane c.args.id in (
      subst (Journalled g.S.LookupSpan.registry g.S.Subscriber.usable new) (sym c.counted.ensures)
          (one_more g.S.LookupSpan.registry g.S.Subscriber.usable old.dispatch new old.calls e c.self.invariant.0 c.exit.ensures.usable
          (goes_on g.S.LookupSpan.registry (Exits c.args.lane c.args.id) (stack_of old.dispatch) (stack_of new) e c.exit.ensures.exits.store
          (exits c.args.lane c.args.id))),
      still_registered old.dispatch new old.callsites.places (registered_by_stack old.dispatch new c.exit.ensures.exits.rest) c.self.invariant.1,
    )
