use Rattle.span_dispatch.specs.Serve.{kept_by}
use Rattle.span_dispatch.proofs.Goes.{served_so}
use Rattle.span_dispatch.proofs.Calls.{current_exact, current_so}
use Rattle.span_dispatch.proofs.dispatch.Dispatch.current_span.Goals as goal

pub returns-clause-served : goal.returns-clause-served
returns-clause-served g c =
    λ f h u. served_so ((current_so g.met.S.Subscriber.laws g.met.S.LookupSpan.with_own g.S.Subscriber.reloaded c.args.lane c.current_span.result
    f c.args.self.now.stack c.current_span.ensures h).0) (current_exact g.met.S.Subscriber.laws g.met.S.LookupSpan.with_own g.S.Subscriber.reloaded
    c.args.lane c.current_span.result f (kept_by c.args.self.now) (g.S.LookupSpan.registry c.args.self.now.stack) c.current_span.ensures)
