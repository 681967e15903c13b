use Rattle.std.proofs.Common.{List, ℕ}
use Rattle.std.specs.FinMap.{len}
use Rattle.span_dispatch.proofs.Calls.{SoFar}
use Rattle.span_dispatch.proofs.dispatch.close_all.Given as goal

abbrev pub invariant-loop-next : goal.invariant-loop-next
invariant-loop-next g l = g.S.Subscriber.usable l.stack
    × ((xs : List ℕ) × SoFar g.met.S.Subscriber.laws g.met.S.LookupSpan.with_own g.S.Subscriber.reloaded l.lane l.fn.id l.fn.stack xs l.next l.stack)

abbrev pub decreases-loop-next : goal.decreases-loop-next
decreases-loop-next g l = len (g.S.LookupSpan.registry l.stack).store.spans
