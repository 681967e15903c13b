use Rattle.std.proofs.Common.{rules}
use Rattle.span_registry.proofs.CallerLemmas.{current_is_shown, extensions_found}
use Rattle.span_examples.proofs.filter.fn.wants_in_marked.dynamic_filter_fn.Goals as goal

pub returns-in-Some : goal.returns-in-Some
returns-in-Some g c =
    let shown = extensions_found _ _ _ _ current_is_shown c.lookup_current.ensures in
    search (rules, shown)
