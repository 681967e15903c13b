use Rattle.std.proofs.Common.{ap, sym, ◌∙◌}
use Rattle.span_registry.specs.References.{to_give}
use Rattle.span_filters.proofs.Around.{around_given, first_passes, given_pass}
use Rattle.span_targets.specs.EnvFilter.{passes_within, spans_of}
use Rattle.span_filters.proofs.env_filter.passes_around.Goals as goal

pub returns-then-passes_within : goal.returns-then-passes_within
returns-then-passes_within g c =
    let registry = g.S.LookupSpan.registry in
    let ds = spans_of c.args.filter.now in
    let given = ap (to_give registry) c.into_iter-span-iterator.ensures.into_iter_gives ∙ c.scope-span-items.ensures in
    let passes = ap (λ m. passes_within ds m c.args.level) (sym c.metadata.ensures) ∙ sym c.passes_within.ensures ∙ c.if-passes_within.true in
    sym (first_passes registry c.args.cx.now ds c.args.level c.in-Some-span.span (to_give registry c.loop-span.span-iterator)
    (to_give registry c.next.new.self) c.in-Some-span.ensures.steps passes)
    ∙ c.loop-span.invariant
    ∙ around_given registry c.args.cx.now ds c.args.level c.lookup_current.result c.in-Some.current _ c.lookup_current.ensures c.in-Some.is given

pub returns : goal.returns
returns g c =
    let registry = g.S.LookupSpan.registry in
    let ds = spans_of c.args.filter.now in
    let given = ap (to_give registry) c.into_iter-span-iterator.ensures.into_iter_gives ∙ c.scope-span-items.ensures in
    sym (ap (given_pass ds c.args.level) c.in-None.ensures.steps.0)
    ∙ c.loop-span.invariant
    ∙ around_given registry c.args.cx.now ds c.args.level c.lookup_current.result c.in-Some.current _ c.lookup_current.ensures c.in-Some.is given
