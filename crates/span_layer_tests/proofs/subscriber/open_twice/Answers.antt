use Rattle.std.proofs.Common.{◌≡◌, ap, ◌∙◌}
use Rattle.span_core.specs.Span.{number_of}
use Rattle.span_core.specs.declared.span.Id.{Id}
use Rattle.span_store.specs.Step.{Clones, asked}
use Rattle.span_store.specs.Store.{handles_of}
use Rattle.span_registry.proofs.CallerLemmas.{and_hooks}
use Rattle.span_layer_tests.proofs.Handles.{ok_both, two_handles}
use Rattle.span_layer_tests.proofs.subscriber.open_twice.Goals as goal

pub returns-clause-handles : goal.returns-clause-handles
returns-clause-handles g c =
    let registry = g.S.LookupSpan.registry in
    let opened = c.new_span.new.self in
    let cloned = c.clone_span.new.self in
    let id = c.in_ok-id.id in
    ok_both c.clone_span.result
    (λ (x : Id). x ≡ id) (λ (x : Id). handles_of (registry cloned).store.spans (number_of x) ≡ 2) (Clones id (registry opened) (registry cloned))
    (λ x same h. ap (λ (i : Id). handles_of (registry cloned).store.spans (number_of i)) same ∙ two_handles registry
    c.args.stack.now opened (registry cloned) c.args.lane (asked c.args.attrs.now c.args.pass.now) id (and_hooks c.in_ok-id.ensures.opened) h)
    c.clone_span.ensures.same c.clone_span.ensures.cloned
