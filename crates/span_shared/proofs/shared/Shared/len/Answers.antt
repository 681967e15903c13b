use Rattle.std.proofs.Common.{ap, length, ◌∙◌}
use Rattle.span_shared.proofs.shared.Shared.len.Goals as goal

pub returns : goal.returns
returns g c = (_, c.deref.result.now.logged.journal, c.stands.ensures, c.len.ensures ∙ ap length c.journal.ensures.journal)
