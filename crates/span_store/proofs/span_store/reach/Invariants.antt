use Rattle.std.proofs.Common.{◌-◌, length}
use Rattle.span_store.specs.private.StoreRepr.{GrowsEmpty}
use Rattle.span_store.proofs.span_store.reach.Given as goal

abbrev pub invariant-loop-alloc : goal.invariant-loop-alloc
invariant-loop-alloc l = GrowsEmpty l.fn.extensions.items l.extensions.items

abbrev pub decreases-loop-alloc : goal.decreases-loop-alloc
decreases-loop-alloc l = l.count - length l.extensions.items
