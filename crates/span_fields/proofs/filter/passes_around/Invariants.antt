use Rattle.std.proofs.Common.{◌≡◌}
use Rattle.span_registry.specs.References.{to_give}
use Rattle.span_fields.proofs.Around.{given_pass}
use Rattle.span_fields.proofs.filter.passes_around.Given as goal
use Rattle.span_fields.specs.Filter.{within_of}

abbrev pub invariant-loop-span : goal.invariant-loop-span
invariant-loop-span g l =
    given_pass (within_of l.fn.filter) l.fn.level (to_give g.S.LookupSpan.registry l.span-iterator)
    ≡ given_pass (within_of l.fn.filter) l.fn.level (to_give g.S.LookupSpan.registry l.initial.span-iterator)
