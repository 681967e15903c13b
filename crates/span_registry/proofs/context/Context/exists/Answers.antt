use Rattle.std.proofs.Common.{is_some, sym, ap, ◌∙◌}
use Rattle.std.specs.FinMap.{get}
use Rattle.span_core.specs.Span.{number_of}
use Rattle.span_registry.specs.Context.{store_at}
use Rattle.span_registry.proofs.View.{gone_nowhere}
use Rattle.span_registry.proofs.context.Context.exists.Goals as goal

pub returns-in-None : goal.returns-in-None
returns-in-None g c =
    let x = number_of c.args.id in
    sym (ap (λ o. is_some (get (store_at g.S.LookupSpan.registry o).spans x)) c.in-None.is ∙ gone_nowhere x)
