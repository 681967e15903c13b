use Rattle.std.proofs.Common.{subst, sym}
use Rattle.span_tracer.proofs.Counted.{after_call, if_ok, opened_grows, still_registered}
use Rattle.span_tracer.specs.Receiver.{Journalled}
use Rattle.span_tracer.proofs.served.Served.new_span.Goals as goal

pub invariant_of-self : goal.invariant_of-self
invariant_of-self g c =
    let old = c.self.inside in
    let from = old.dispatch in
    let new = c.new_span_by-given.new.self in (
      subst (Journalled g.S.LookupSpan.registry g.S.Subscriber.usable new) (sym c.counted.ensures)
          (after_call
          g.S.LookupSpan.registry g.S.Subscriber.usable from new old.calls c.new_span_by-given.result c.self.invariant.0 c.new_span_by-given.ensures.usable
          (if_ok c.new_span_by-given.result (λ made h. opened_grows g.S.LookupSpan.registry g.S.Subscriber.usable from new c.args.lane c.args.attrs.now made h)
          c.new_span_by-given.ensures.opens.store) c.new_span_by-given.ensures.opens.unchanged),
      still_registered from new old.callsites.places c.new_span_by-given.ensures.registered c.self.invariant.1,
    )

pub new_span_by-given-requires-clause-known : goal.new_span_by-given-requires-clause-known
new_span_by-given-requires-clause-known g c = c.self.invariant.1 _ _ c.in-Some.ensures.there
