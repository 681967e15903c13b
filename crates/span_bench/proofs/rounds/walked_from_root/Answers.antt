use Rattle.std.proofs.Common.{length, ap, ◌∙◌}
use Rattle.std.proofs.lemmas.List.{length-map, length-reverse}
use Rattle.span_registry.specs.References.{to_give_from_root}
use Rattle.span_registry.proofs.CallerLemmas.{scope_found}
use Rattle.span_bench.proofs.Counted.{all_counted}
use Rattle.span_bench.proofs.rounds.walked_from_root.Goals as goal

pub returns : goal.returns
returns g c = λ xs chain.
    let found = scope_found g.S.LookupSpan.registry c.args.stack.now c.args.id c.in-Some.span c.span.result xs c.span.ensures c.in-Some.is chain in
    let given = ap (λ items. to_give_from_root items) c.into_iter-each-iterator.ensures.into_iter_gives ∙ c.in_ok-_each-items.ensures.reversed in
    let long = ap length given ∙ length-reverse _ ∙ ap length (c.scope.ensures ∙ found) ∙ length-map xs _ in
    all_counted c.loop-each.count _ _ _ _ c.loop-each.invariant (ap length c.in-None.ensures.steps.0) long
