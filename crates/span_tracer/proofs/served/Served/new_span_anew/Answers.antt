use Rattle.std.proofs.Common.{subst, sym}
use Rattle.span_tracer.proofs.Counted.{after_call, if_ok, opened_grows, no_more, still_registered}
use Rattle.span_tracer.specs.Receiver.{Journalled}
use Rattle.span_tracer.proofs.served.Served.new_span_anew.Goals as goal

pub invariant_of-self : goal.invariant_of-self
invariant_of-self g c =
    let old = c.self.inside in
    let from = c.learn.new.dispatch in
    let new = c.new_span-given.new.self in (
      subst (Journalled g.S.LookupSpan.registry g.S.Subscriber.usable new) (sym c.counted.ensures)
          (after_call g.S.LookupSpan.registry g.S.Subscriber.usable from new old.calls c.new_span-given.result
          (no_more g.S.LookupSpan.registry g.S.Subscriber.usable old.dispatch from old.calls c.self.invariant.0 c.learn.ensures.stack)
          c.new_span-given.ensures.usable
          (if_ok c.new_span-given.result (λ made h. opened_grows g.S.LookupSpan.registry g.S.Subscriber.usable from new c.args.lane c.args.attrs made h)
          c.new_span-given.ensures.opens.store) c.new_span-given.ensures.opens.unchanged),
      still_registered from new c.learn.new.table.places c.new_span-given.ensures.registered c.learn.ensures.registered,
    )

pub returns : goal.returns
returns g c =
    let old = c.self.inside in (
      c.learn.new.dispatch,
      c.new_span-given.new.self,
      old.calls,
      no_more g.S.LookupSpan.registry g.S.Subscriber.usable old.dispatch c.learn.new.dispatch old.calls c.self.invariant.0 c.learn.ensures.stack,
      c.new_span-given.ensures.opens,
    )
