use Rattle.std.proofs.Common.{◌≡◌, ◌+◌, vec_len}
use Rattle.span_shared.specs.Worker.{calls_of}
use Rattle.span_shared.proofs.shared.merged.Given as goal

abbrev pub invariant-loop-worker : goal.invariant-loop-worker
invariant-loop-worker g l =
    (l.all.parts + vec_len l.left ≡ vec_len l.fn.workers)
    × (l.all.amount + calls_of l.left.items ≡ calls_of l.fn.workers.items)

abbrev pub decreases-loop-worker : goal.decreases-loop-worker
decreases-loop-worker g l = goal.left-loop-worker g l
