use Rattle.span_core.specs.Span.{number_of}
use Rattle.span_examples.proofs.law.is_there.Goals as goal

pub returns : goal.returns
returns c =
    let law = c.open_between_requests.ensures c.args.registry.now.store.spans (number_of c.args.id) c.requires in
    (λ t. law.1 (c.is_open.ensures.0 t), λ h. c.is_open.ensures.1 (law.0 h))
