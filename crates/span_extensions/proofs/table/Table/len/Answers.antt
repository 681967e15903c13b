use Rattle.std.proofs.Common.{sym, ap, ◌∙◌}
use Rattle.std.specs.FinMap as map
use Rattle.span_extensions.proofs.NumberMaps.{len-of_entries}
use Rattle.span_extensions.proofs.table.Table.len.Goals as goal

pub returns : goal.returns
returns g c = c.len.ensures.len ∙ sym (len-of_entries c.self.inside.entries.entries c.len.ensures.ordered) ∙ ap map.len c.self.view_is
