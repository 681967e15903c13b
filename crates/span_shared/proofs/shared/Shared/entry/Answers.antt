use Rattle.std.proofs.Common.{ap, slice_get, ◌∙◌}
use Rattle.span_shared.proofs.shared.Shared.entry.Goals as goal

pub returns : goal.returns
returns g c =
    (_, c.deref.result.now.logged.journal, c.stands.ensures, c.get.ensures ∙ ap (λ journal. slice_get journal c.args.place) c.journal.ensures.journal)
