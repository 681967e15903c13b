use Rattle.std.proofs.Common.{rules}
use Rattle.span_dispatch.proofs.Ready.{stays_ready}
use Rattle.span_dispatch.specs.Serve.{kept_by, with_stack}
use Rattle.span_dispatch.proofs.Stores.{cloned_store}
use Rattle.span_dispatch.proofs.Goes.{served_so}
use Rattle.span_dispatch.proofs.Calls.{clone_exactly, cloned_so}
use Rattle.span_dispatch.proofs.Stores.{room_to_clone}
use Rattle.span_dispatch.proofs.dispatch.Dispatch.clone_span.Goals as goal

pub returns-clause-ready : goal.returns-clause-ready
returns-clause-ready g c = stays_ready c.args.self.now (with_stack c.args.self.now c.clone_span.new.self) (λ f k u. (cloned_so g.met.S.Subscriber.laws
    g.met.S.LookupSpan.with_own g.S.Subscriber.reloaded c.args.lane c.args.id c.clone_span.result f c.args.self.now.stack c.clone_span.new.self
    c.clone_span.ensures.cloned c.clone_span.ensures.alone c.clone_span.ensures.refused c.clone_span.ensures.unchanged k.honest).1 k.settled) (λ f h u. u)

pub returns-clause-clones : goal.returns-clause-clones
returns-clause-clones g c = record {
  rest = search rules;
  served = λ f h u. served_so ((cloned_so g.met.S.Subscriber.laws g.met.S.LookupSpan.with_own
      g.S.Subscriber.reloaded c.args.lane c.args.id c.clone_span.result f c.args.self.now.stack c.clone_span.new.self c.clone_span.ensures.cloned
      c.clone_span.ensures.alone c.clone_span.ensures.refused c.clone_span.ensures.unchanged h).0) (clone_exactly g.met.S.Subscriber.laws
      g.met.S.LookupSpan.with_own g.S.Subscriber.reloaded c.args.lane c.args.id c.clone_span.result f (kept_by c.args.self.now)
      (g.S.LookupSpan.registry c.args.self.now.stack) (room_to_clone c.args.lane c.args.id c.clone_span.result (g.S.LookupSpan.registry c.args.self.now.stack)
      (g.S.LookupSpan.registry c.clone_span.new.self) c.clone_span.ensures.cloned) c.clone_span.ensures.refused);
  store = cloned_store g.S.LookupSpan.registry g.S.LookupSpan.with_registry
      c.args.id c.clone_span.result c.args.self.now (with_stack c.args.self.now c.clone_span.new.self) c.clone_span.ensures.cloned c.clone_span.ensures.alone;
  refused = search rules;
  unchanged = search rules;
}
