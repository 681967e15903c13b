use Rattle.std.proofs.Common.{IfSome}
use Rattle.std.specs.FinMap.{len}
use Rattle.span_core.specs.Span.{number_of}
use Rattle.span_store.specs.Store.{IsClosing}
use Rattle.span_layer_tests.proofs.store_fixture.drop_handle.Given as goal

abbrev pub invariant-loop-next : goal.invariant-loop-next
invariant-loop-next l = IfSome l.next (λ p. IsClosing l.registry.store.spans (number_of p))

abbrev pub decreases-loop-next : goal.decreases-loop-next
decreases-loop-next l = len l.registry.store.spans
