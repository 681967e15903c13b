use Rattle.span_script.proofs.way.AloneWay.serve.Goals as goal

pub returns-in-Ok-clause-alone : goal.returns-in-Ok-clause-alone
returns-in-Ok-clause-alone g c = λ alone. record {
  begun = c.new-dispatch.result;
  in_use = c.new-dispatch.ensures.registered;
  same = c.new-dispatch.ensures.registry;
  kept = c.new-dispatch.ensures.kept.callsites;
  served = λ k. let ready = c.new-dispatch.ensures.ready k.0 k.1 in c.in-Ok.ensures.served (ready.0, ready.1);
}
