use Rattle.std.proofs.Common.{rules}
use Rattle.span_dispatch.proofs.Ready.{stays_ready}
use Rattle.span_dispatch.specs.Serve.{kept_by, with_stack}
use Rattle.span_dispatch.proofs.Stores.{on_ok}
use Rattle.span_registry.proofs.CallerLemmas.{and_hooks}
use Rattle.span_dispatch.proofs.Goes.{served_so}
use Rattle.span_dispatch.proofs.Calls.{enter_exactly, entered_so}
use Rattle.span_dispatch.proofs.dispatch.Dispatch.enter.Goals as goal

pub returns-clause-ready : goal.returns-clause-ready
returns-clause-ready g c = stays_ready c.args.self.now (with_stack c.args.self.now c.enter.new.self)
    (λ f k u. (entered_so g.met.S.Subscriber.laws g.met.S.LookupSpan.with_own g.S.Subscriber.reloaded c.args.lane c.args.id c.enter.result
    f c.args.self.now.stack c.enter.new.self c.enter.ensures.entered c.enter.ensures.refused c.enter.ensures.unchanged k.honest).1 k.settled) (λ f h u. u)

pub returns-clause-enters : goal.returns-clause-enters
returns-clause-enters g c = record {
  rest = search rules;
  served = λ f h u. served_so ((entered_so g.met.S.Subscriber.laws g.met.S.LookupSpan.with_own g.S.Subscriber.reloaded c.args.lane
      c.args.id c.enter.result f c.args.self.now.stack c.enter.new.self c.enter.ensures.entered c.enter.ensures.refused c.enter.ensures.unchanged h).0)
      (enter_exactly g.met.S.Subscriber.laws g.met.S.LookupSpan.with_own g.S.Subscriber.reloaded
      c.args.lane c.args.id c.enter.result f (kept_by c.args.self.now) (g.S.LookupSpan.registry c.args.self.now.stack) c.enter.ensures.refused);
  store = on_ok c.enter.result (λ u. and_hooks) c.enter.ensures.entered;
  refused = search rules;
  unchanged = search rules;
}
