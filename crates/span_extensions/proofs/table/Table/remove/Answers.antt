use Rattle.std.proofs.Common.{sym, ap, ◌∙◌}
use Rattle.std.specs.FinMap as map
use Rattle.span_extensions.proofs.NumberMaps.{get-of_entries, removed}
use Rattle.span_extensions.proofs.table.Table.remove.Goals as goal

pub returns-clause-value : goal.returns-clause-value
returns-clause-value g c = c.remove.ensures.value ∙ sym (get-of_entries _ _) ∙ ap (λ m. map.get m c.args.number) c.self.view_is

pub returns-clause-after : goal.returns-clause-after
returns-clause-after g c = removed c.self.inside.entries c.remove.new.self _ c.remove.ensures.updates ∙ ap (λ m. map.remove m c.args.number) c.self.view_is
