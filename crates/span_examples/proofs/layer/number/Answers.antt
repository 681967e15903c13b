use Rattle.std.proofs.Common.{rules}
use Rattle.span_registry.proofs.CallerLemmas.{extensions_found, named_is_shown, view_lent_on}
use Rattle.span_examples.proofs.layer.number.Goals as goal

-- A span found through a look at what the hook is lent has the extensions that the hook sees.
pub returns-in-Some : goal.returns-in-Some
returns-in-Some g c =
    let seen = extensions_found _ _ _ _ (named_is_shown _) c.span.ensures in
    let view = view_lent_on g.S.LookupSpan.registry _ _ c.ctx.ensures in
    search (rules, seen, view)

pub returns-in-None : goal.returns-in-None
returns-in-None g c =
    let seen = extensions_found _ _ _ _ (named_is_shown _) c.span.ensures in
    let view = view_lent_on g.S.LookupSpan.registry _ _ c.ctx.ensures in
    search (rules, seen, view)
