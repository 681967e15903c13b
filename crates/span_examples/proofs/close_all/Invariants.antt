use Rattle.std.proofs.Common.{List, ℕ}
use Rattle.std.specs.FinMap.{len}
use Rattle.span_store.specs.Step.{Removal}
use Rattle.span_examples.specs.Uses.{Lists}
use Rattle.span_examples.proofs.close_all.Given as goal

abbrev pub invariant-loop-next : goal.invariant-loop-next
invariant-loop-next l = (xs : List ℕ) × Removal (λ _ _. ⊥) l.fn.registry l.fn.id xs l.next l.registry × Lists l.closed xs

abbrev pub decreases-loop-next : goal.decreases-loop-next
decreases-loop-next l = len l.registry.store.spans
