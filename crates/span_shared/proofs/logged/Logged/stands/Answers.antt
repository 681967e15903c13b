use Rattle.std.proofs.Common.{subst}
use Rattle.span_dispatch.specs.declared.dispatch.Dispatch.{Dispatch}
use Rattle.span_shared.specs.Journal.{KeepsJournal, LoggedState}
use Rattle.span_shared.proofs.logged.Logged.stands.Goals as goal

pub returns : goal.returns
returns g c =
    let keeps : LoggedState (Dispatch g.row.S.Denot) → Type 0 = λ l. KeepsJournal g.S.LookupSpan.registry g.S.Subscriber.usable l.dispatch l.journal in
    subst keeps c.self.view_is c.self.invariant
