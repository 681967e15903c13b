use Rattle.std.proofs.Common.{false}
use Rattle.span_core.specs.Span.{number_of}
use Rattle.span_registry.specs.References.{span_of_reference}
use Rattle.span_examples.proofs.Parents.{descends, from_root_found, reference_found}
use Rattle.span_examples.proofs.law.way_down.Goals as goal

pub returns-clause-reversed : goal.returns-clause-reversed
returns-clause-reversed c =
    from_root_found c.args.registry.now
    c.args.id c.span.result c.in-Some.span c.scope.result c.from_root.result c.span.ensures c.in-Some.is c.scope.ensures c.from_root.ensures.reversed

pub returns-clause-descent : goal.returns-clause-descent
returns-clause-descent c =
    let s = c.args.registry.now in
    let x = number_of c.args.id in
    let reversed = from_root_found s
    c.args.id c.span.result c.in-Some.span c.scope.result c.from_root.result c.span.ensures c.in-Some.is c.scope.ensures c.from_root.ensures.reversed in
    let there = reference_found s c.args.id c.span.result c.in-Some.span c.span.ensures c.in-Some.is in
    let chain = c.a_registry_is_sound.ensures.forest x (span_of_reference c.in-Some.span) there in
    let law = c.look_ups_are_of_the_store.ensures s.store (λ n. false) x in
    descends s c.args.id c.from_root.result reversed chain.0 chain.1 (law.descent chain.0 chain.1)
