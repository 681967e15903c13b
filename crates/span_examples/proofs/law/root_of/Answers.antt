use Rattle.std.proofs.Common.{ap, ◌∙◌}
use Rattle.span_core.specs.Span.{number_of}
use Rattle.span_registry.specs.References.{to_give}
use Rattle.span_examples.proofs.Parents.{arrived}
use Rattle.span_examples.proofs.law.root_of.Goals as goal

pub returns-clause-root : goal.returns-clause-root
returns-clause-root c =
    let s = c.args.registry.now in
    let law = c.chains_end_at_a_root.ensures s.store.spans (number_of c.args.id) c.a_registry_is_sound.ensures.forest in
    let given = ap (λ items. to_give (λ t. t) items) c.into_iter-span-iterator.ensures.into_iter_gives ∙ c.scope-span-items.ensures in
    (arrived s c.args.id
    c.span.result c.in_ok-span.field-0 c.loop-span.root _ _ law c.span.ensures c.in_ok-span.was given c.loop-span.invariant c.in-None.ensures.steps.0).0

pub returns-clause-arrives : goal.returns-clause-arrives
returns-clause-arrives c =
    let s = c.args.registry.now in
    let law = c.chains_end_at_a_root.ensures s.store.spans (number_of c.args.id) c.a_registry_is_sound.ensures.forest in
    let given = ap (λ items. to_give (λ t. t) items) c.into_iter-span-iterator.ensures.into_iter_gives ∙ c.scope-span-items.ensures in
    let at = arrived s c.args.id
    c.span.result c.in_ok-span.field-0 c.loop-span.root _ _ law c.span.ensures c.in_ok-span.was given c.loop-span.invariant c.in-None.ensures.steps.0 in
    (λ _. at.2, λ _. at.1)
