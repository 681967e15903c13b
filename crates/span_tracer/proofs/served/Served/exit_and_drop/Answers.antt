use Rattle.std.proofs.Common.{ap, subst, sym}
use Rattle.span_dispatch.proofs.CallerLemmas.{registered_by_stack}
use Rattle.span_dispatch.specs.Serve.{stack_of}
use Rattle.span_shared.proofs.Journalled.{drops_on, exits, goes_on}
use Rattle.span_shared.specs.Journal.{Entry}
use Rattle.span_shared.specs.declared.entry.EntryWith.TheVariants as entry
use Rattle.span_store.specs.Step.{Exits}
use Rattle.span_tracer.proofs.Counted.{after_call, if_ok, on_err, one_more, still_registered}
use Rattle.span_tracer.specs.Receiver.{Journalled}
use Rattle.span_tracer.proofs.served.Served.exit_and_drop.Goals as goal

pub invariant_of-self : goal.invariant_of-self
invariant_of-self g c =
    let old = c.self.inside in
    let left = c.exit.new.self in
    let new = c.drop_span-given.new.self in
    let e : Entry = entry.Exit c.args.lane c.args.id in
    let between : Journalled g.S.LookupSpan.registry g.S.Subscriber.usable left c.counted.result =
    subst (Journalled g.S.LookupSpan.registry g.S.Subscriber.usable left) (sym c.counted.ensures)
    (one_more g.S.LookupSpan.registry g.S.Subscriber.usable old.dispatch left old.calls e c.self.invariant.0 c.exit.ensures.usable
    (goes_on g.S.LookupSpan.registry (Exits c.args.lane c.args.id) (stack_of old.dispatch) (stack_of left) e c.exit.ensures.exits.store
    (exits c.args.lane c.args.id))) in (
      subst (Journalled g.S.LookupSpan.registry g.S.Subscriber.usable new) (sym c.counted-2.ensures)
          (after_call
          g.S.LookupSpan.registry g.S.Subscriber.usable left new c.counted.result c.drop_span-given.result between c.drop_span-given.ensures.usable
          (if_ok c.drop_span-given.result (λ closes h. (
            entry.Drop c.args.lane c.args.id closes,
            drops_on g.S.LookupSpan.registry (stack_of left) (stack_of new) c.args.lane c.args.id closes
                (h between.1.settled) c.drop_span-given.ensures.drops.settled,
          )) c.drop_span-given.ensures.drops.store)
          (on_err c.drop_span-given.result (λ same. ap stack_of same) c.drop_span-given.ensures.drops.unchanged)),
      still_registered left new old.callsites.places (registered_by_stack left new c.drop_span-given.ensures.drops.rest)
          (still_registered old.dispatch left old.callsites.places (registered_by_stack old.dispatch left c.exit.ensures.exits.rest) c.self.invariant.1),
    )

pub returns : goal.returns
returns g c = (
  c.self.inside.dispatch,
  c.drop_span-given.new.self,
  c.self.inside.calls,
  c.self.invariant.0,
  record { between = c.exit.new.self; left = c.exit.ensures.exits; dropped = c.drop_span-given.ensures.drops },
)
