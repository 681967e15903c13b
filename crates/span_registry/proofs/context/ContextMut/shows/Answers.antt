use Rattle.std.proofs.Common.{false, not, sym, ap, ◌∙◌}
use Rattle.std.specs.Option.{option_map_or}
use Rattle.span_core.specs.Span.{number_of}
use Rattle.span_store.specs.Data.{data_span}
use Rattle.span_registry.specs.Context.{filters_lent, subscriber_lent}
use Rattle.span_registry.proofs.Ancestry.{seen_none, shown_some}
use Rattle.span_registry.proofs.context.ContextMut.shows.Goals as goal

pub returns-in-Some : goal.returns-in-Some
returns-in-Some g c =
    ap not c.hides.ensures
    ∙ sym (shown_some (g.S.LookupSpan.registry (subscriber_lent c.args.self.now)).store
    (filters_lent c.args.self.now) (number_of c.args.id) (data_span c.in-Some.found) (sym c.in-Some.ensures.found.span))

pub returns-in-None : goal.returns-in-None
returns-in-None g c =
    sym (ap (λ o. option_map_or (λ r. not r.hidden) o false)
    (seen_none (g.S.LookupSpan.registry (subscriber_lent c.args.self.now)).store
    (filters_lent c.args.self.now) (number_of c.args.id) (sym c.in-None.ensures.found.span)))
