use Rattle.std.proofs.Common.{◌≡◌, length}
use Rattle.std.specs.FinMap.{len}
use Rattle.std.specs.Option.{option_map}
use Rattle.span_registry.specs.Mask.{filters_of}
use Rattle.span_core.specs.Span.{number_of}
use Rattle.span_registry.specs.View.{ancestry, scope, seen_spans}
use Rattle.span_registry.proofs.scope.SpanRef.nearest_shown.Given as goal

-- what is left is the whole scope: only hidden spans were passed
abbrev pub invariant-loop-next : goal.invariant-loop-next
invariant-loop-next g l = scope (seen_spans (g.R.LookupSpan.registry l.subscriber).store (filters_of l.mask)) (option_map number_of l.next)
    ≡ scope (seen_spans (g.R.LookupSpan.registry l.subscriber).store (filters_of l.mask)) (option_map number_of l.fn.from)

-- the ancestors that are left
abbrev pub decreases-loop-next : goal.decreases-loop-next
decreases-loop-next g l =
    let m = seen_spans (g.R.LookupSpan.registry l.subscriber).store (filters_of l.mask) in
    length (ancestry (len m) m (option_map number_of l.next))
