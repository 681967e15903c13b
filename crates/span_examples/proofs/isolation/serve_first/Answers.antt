use Rattle.span_examples.proofs.isolation.serve_first.Goals as goal

pub returns-clause-served : goal.returns-clause-served
returns-clause-served g c = record {
  first = c.uncached-dispatch.result;
  in_use = c.uncached-dispatch.ensures.registered;
  same = c.uncached-dispatch.ensures.registry;
  served = λ k. let ready = c.uncached-dispatch.ensures.ready k.0 k.1 in c.in_ok-answers.ensures.served (ready.0, ready.1);
}
