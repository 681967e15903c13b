use Rattle.span_registry.specs.References.{to_give}
use Rattle.span_registry.proofs.FromRoot.{IsCollecting}
use Rattle.span_registry.proofs.scope.Scope.from_root.Given as goal

abbrev pub invariant-loop-span : goal.invariant-loop-span
invariant-loop-span g l =
    IsCollecting l.spans.items l.spans.capacity (to_give g.R.LookupSpan.registry l.span-iterator) (to_give g.R.LookupSpan.registry l.fn.self)
