use Rattle.std.proofs.Common.{◌∙◌}
use Rattle.span_core.specs.Span.{number_of}
use Rattle.span_store.proofs.Distinct.{any_down}
use Rattle.span_store.proofs.stack.is_among.Goals as goal

pub returns : goal.returns
returns c = c.contains.ensures.value ∙ any_down (number_of c.args.id) c.args.spans.now
