use Rattle.std.proofs.Common.{take}
use Rattle.span_store.specs.private.Index.{Indexes}
use Rattle.span_store.specs.private.Marks.{ids_down}
use Rattle.span_store.proofs.stack.index_of.Given as goal

abbrev pub invariant-loop-entry : goal.invariant-loop-entry
invariant-loop-entry l = Indexes l.index (ids_down (take l.entry-index l.entries))
