use Rattle.std.proofs.Common.{◌≡◌}
use Rattle.span_registry.specs.References.{to_give}
use Rattle.span_filters.proofs.Around.{given_pass}
use Rattle.span_filters.proofs.env_filter.passes_around.Given as goal
use Rattle.span_targets.specs.EnvFilter.{spans_of}

abbrev pub invariant-loop-span : goal.invariant-loop-span
invariant-loop-span g l =
    given_pass (spans_of l.fn.filter) l.fn.level (to_give g.S.LookupSpan.registry l.span-iterator)
    ≡ given_pass (spans_of l.fn.filter) l.fn.level (to_give g.S.LookupSpan.registry l.initial.span-iterator)
