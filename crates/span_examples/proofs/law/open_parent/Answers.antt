use Rattle.std.proofs.Common.{◌∙◌}
use Rattle.span_core.specs.Span.{number_of}
use Rattle.span_examples.proofs.Parents.{of_parent, parent_found}
use Rattle.span_examples.proofs.law.open_parent.Goals as goal

pub returns-clause-open : goal.returns-clause-open
returns-clause-open c =
    let s = c.args.registry.now.store in
    let x = number_of c.args.id in
    let parent = c.parent.ensures ∙ parent_found s c.args.id c.span_data.result c.in_ok-span_data.field-0 c.span_data.ensures.found c.in_ok-span_data.was in
    of_parent s.spans x c.parent.result (λ p e. c.parents_are_open.ensures s.spans x p c.a_registry_is_sound.ensures.forest e) parent
