use Rattle.std.proofs.Common.{◌∙◌, ap, not, rules, sym, tests}
use Rattle.std.proofs.lemmas.Fn.{filter_same}
use Rattle.span_core.specs.Span.{number_of}
use Rattle.span_export.specs.Entry.{entries_after, is_into}
use Rattle.span_export.proofs.entry.go_on.Goals as goal

pub returns-in-Closed : goal.returns-in-Closed
returns-in-Closed c =
    filter_same _ (λ e. not (is_into (number_of c.in-Closed.span) e)) _ (λ x b q k. search (rules, tests)) _ _ c.retain.ensures.filtered
    ∙ ap (entries_after c.args.entries.now.items c.args.point.now) (sym c.in-Closed.is)
