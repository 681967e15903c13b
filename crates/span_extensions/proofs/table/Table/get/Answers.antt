use Rattle.std.proofs.Common.{sym, ap, ◌∙◌}
use Rattle.std.specs.FinMap as map
use Rattle.span_extensions.proofs.NumberMaps.{get-of_entries}
use Rattle.span_extensions.proofs.table.Table.get.Goals as goal

pub returns : goal.returns
returns g c = c.get.ensures.value ∙ sym (get-of_entries _ _) ∙ ap (λ m. map.get m c.args.number) c.self.view_is
