use Rattle.std.proofs.Common.{length, ap, ◌∙◌}
use Rattle.std.proofs.lemmas.List.{length-map}
use Rattle.span_registry.specs.References.{to_give}
use Rattle.span_registry.proofs.CallerLemmas.{scope_found}
use Rattle.span_bench.proofs.Counted.{all_counted}
use Rattle.span_bench.proofs.rounds.walked.Goals as goal

pub returns : goal.returns
returns g c = λ xs chain.
    let registry = g.S.LookupSpan.registry in
    let found = scope_found registry c.args.stack.now c.args.id c.in-Some.span c.span.result xs c.span.ensures c.in-Some.is chain in
    let given = ap (λ items. to_give registry items) c.into_iter-each-iterator.ensures.into_iter_gives ∙ c.scope-each-items.ensures in
    all_counted c.loop-each.count _ _ _ _ c.loop-each.invariant (ap length c.in-None.ensures.steps.0) (ap length (given ∙ found) ∙ length-map xs _)
