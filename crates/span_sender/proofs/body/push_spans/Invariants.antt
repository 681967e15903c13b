use Rattle.std.proofs.Common.{◌≡◌, ◌∷◌, ◌++◌, drop, flat_map}
use Rattle.std.specs.Prelude.{string_bytes}
use Rattle.span_sender.specs.Body.{resource_spans}
use Rattle.span_sender.proofs.body.push_spans.Given as goal

abbrev pub invariant-loop-span : goal.invariant-loop-span
invariant-loop-span l =
    l.body.items ++ flat_map (λ span. 44 ∷ resource_spans (string_bytes span)) (drop l.span-index l.rest)
    ≡ l.initial.body.items ++ flat_map (λ span. 44 ∷ resource_spans (string_bytes span)) l.rest
