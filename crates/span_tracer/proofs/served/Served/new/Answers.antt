use Rattle.span_tracer.proofs.Counted.{no_call}
use Rattle.span_tracer.proofs.served.Served.new.Goals as goal

pub invariant_of-result : goal.invariant_of-result
invariant_of-result g c = (
  no_call g.S.LookupSpan.registry g.S.Subscriber.usable c.args.dispatch c.requires.usable c.requires.fresh,
  (λ place r at. absurd (c.new.ensures place r at)),
)
