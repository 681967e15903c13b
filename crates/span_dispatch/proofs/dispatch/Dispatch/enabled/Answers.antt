use Rattle.span_dispatch.proofs.Ready.{same_ready}
use Rattle.std.proofs.Common.{[], sym, rules, ap}
use Rattle.span_dispatch.proofs.Calls.{probe_says, probed_exactly}
use Rattle.span_dispatch.proofs.Goes.{served_so}
use Rattle.span_dispatch.proofs.Stores.{asked_of}
use Rattle.span_dispatch.specs.Serve.{KeepsUpToDate, kept_by, stack_of}
use Rattle.span_dispatch.proofs.dispatch.Dispatch.enabled.Goals as goal

pub returns-clause-ready : goal.returns-clause-ready
returns-clause-ready g c = same_ready c.args.self.now c.admits.new.self (ap stack_of c.admits.ensures.rest) c.admits.ensures.up_to_date

pub returns-clause-probes : goal.returns-clause-probes
returns-clause-probes g c = record {
  rest = search rules;
  served = λ f h u. served_so (
    [],
    record {
      says = probe_says g.met.S.Subscriber.laws g.met.S.LookupSpan.with_own
          g.S.Subscriber.reloaded c.args.lane c.args.meta.now c.admits.result (g.S.LookupSpan.registry (stack_of c.args.self.now)).store;
      goes = sym (ap stack_of c.admits.ensures.rest);
    },
  ) (probed_exactly g.met.S.Subscriber.laws g.met.S.LookupSpan.with_own g.S.Subscriber.reloaded c.args.lane c.args.meta.now c.admits.new.pass c.admits.result
      f (kept_by c.args.self.now) (kept_by c.admits.new.self) (g.S.LookupSpan.registry (stack_of c.args.self.now)) (c.admits.ensures.admitted f h u));
  kept = search rules;
  up_to_date = search rules;
  asked = asked_of g.S.LookupSpan.registry g.S.Subscriber.has_form c.args.lane (stack_of c.args.self.now) (kept_by c.args.self.now)
      (λ f. KeepsUpToDate f (g.S.LookupSpan.registry (stack_of c.args.self.now)).filters c.args.self.now) c.args.meta.now
      c.admits.new.pass c.admits.result c.admits.ensures.decided;
}
