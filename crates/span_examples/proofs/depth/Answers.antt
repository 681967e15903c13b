use Rattle.std.proofs.Common.{length, arith, ap, ◌∙◌, ℕ, ◌≡◌, ◌≤◌, ◌+◌, min}
use Rattle.std.proofs.lemmas.List.{length-map}
use Rattle.span_registry.specs.References.{to_give}
use Rattle.span_registry.proofs.CallerLemmas.{scope_found}
use Rattle.span_examples.proofs.depth.Goals as goal

-- nothing is left, so all were counted
all_counted : (d left all n top : ℕ) → (d ≤ top) × (min (d + left) top ≡ min all top) → left ≡ 0 → all ≡ n → d ≡ min n top
all_counted d left all n top h none same = let k = h.0 in let e = h.1 in omega arith

pub returns-clause-all : goal.returns-clause-all
returns-clause-all c = λ xs chain.
    let found = scope_found (λ s. s) c.args.registry.now c.args.id c.in-Some.span c.span.result xs c.span.ensures c.in-Some.is chain in
    let given = ap (λ items. to_give (λ s. s) items) c.into_iter-above-iterator.ensures.into_iter_gives ∙ c.scope-above-items.ensures in
    all_counted c.loop-above.depth _ _ _ _ c.loop-above.invariant (ap length c.in-None.ensures.steps.0) (ap length (given ∙ found) ∙ length-map xs _)
