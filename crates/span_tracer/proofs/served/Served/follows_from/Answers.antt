use Rattle.std.proofs.Common.{ap, subst, sym}
use Rattle.span_dispatch.specs.Serve.{stack_of}
use Rattle.span_shared.specs.Journal.{Entry}
use Rattle.span_shared.specs.declared.entry.EntryWith.TheVariants as entry
use Rattle.span_tracer.specs.Receiver.{Journalled}
use Rattle.span_dispatch.proofs.CallerLemmas.{registered_by_stack}
use Rattle.span_shared.proofs.Journalled.{goes_on, follows}
use Rattle.span_dispatch.specs.Call.{FindsOpen}
use Rattle.span_tracer.proofs.Counted.{after_call, on_err, on_ok, still_registered}
use Rattle.span_tracer.proofs.served.Served.follows_from.Goals as goal

pub invariant_of-self : goal.invariant_of-self
invariant_of-self g c =
    let old = c.self.inside in
    let new = c.follows_from-given.new.self in
    let e : Entry = entry.Follows c.args.lane c.args.id c.args.follows in (
      subst (Journalled g.S.LookupSpan.registry g.S.Subscriber.usable new) (sym c.counted.ensures)
          (after_call g.S.LookupSpan.registry
          g.S.Subscriber.usable old.dispatch new old.calls c.follows_from-given.result c.self.invariant.0 c.follows_from-given.ensures.usable
          (on_ok c.follows_from-given.result (λ u h. (
            e,
            goes_on g.S.LookupSpan.registry (FindsOpen c.args.id) (stack_of old.dispatch) (stack_of new) e h (follows c.args.lane c.args.id c.args.follows),
          )) c.follows_from-given.ensures.follows.store)
          (on_err c.follows_from-given.result (λ same. ap stack_of same) c.follows_from-given.ensures.follows.unchanged)),
      still_registered old.dispatch
          new old.callsites.places (registered_by_stack old.dispatch new c.follows_from-given.ensures.follows.rest) c.self.invariant.1,
    )
