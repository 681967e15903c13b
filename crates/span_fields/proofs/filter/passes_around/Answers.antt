use Rattle.std.proofs.Common.{ap, sym, ◌∙◌}
use Rattle.span_core.specs.Span.{number_of}
use Rattle.span_registry.specs.References.{to_give}
use Rattle.span_fields.proofs.Around.{around_given, first_passes, given_pass}
use Rattle.span_fields.specs.Filter.{passes_in, within_of}
use Rattle.span_fields.proofs.filter.passes_around.Goals as goal

pub returns-then-passes_in : goal.returns-then-passes_in
returns-then-passes_in g c =
    let registry = g.S.LookupSpan.registry in
    let known = within_of c.args.filter.now in
    let given = ap (to_give registry) c.into_iter-span-iterator.ensures.into_iter_gives ∙ c.scope-span-items.ensures in
    let passes = ap (λ i. passes_in known c.args.level (number_of i)) (sym c.id.ensures) ∙ sym c.passes_in.ensures ∙ c.if-passes_in.true in
    sym (first_passes registry c.args.cx.now known c.args.level c.in-Some-span.span (to_give registry c.loop-span.span-iterator)
    (to_give registry c.next.new.self) c.in-Some-span.ensures.steps passes)
    ∙ c.loop-span.invariant
    ∙ around_given registry c.args.cx.now known c.args.level c.lookup_current.result c.in-Some.current _ c.lookup_current.ensures c.in-Some.is given

pub returns : goal.returns
returns g c =
    let registry = g.S.LookupSpan.registry in
    let known = within_of c.args.filter.now in
    let given = ap (to_give registry) c.into_iter-span-iterator.ensures.into_iter_gives ∙ c.scope-span-items.ensures in
    sym (ap (given_pass known c.args.level) c.in-None.ensures.steps.0)
    ∙ c.loop-span.invariant
    ∙ around_given registry c.args.cx.now known c.args.level c.lookup_current.result c.in-Some.current _ c.lookup_current.ensures c.in-Some.is given
