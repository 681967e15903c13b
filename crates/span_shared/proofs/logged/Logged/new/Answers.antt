use Rattle.std.proofs.Common.{List, sym, subst}
use Rattle.span_shared.proofs.Journalled.{begun_journal}
use Rattle.span_shared.specs.Journal.{Entry, KeepsJournal}
use Rattle.span_shared.proofs.logged.Logged.new.Goals as goal

pub invariant_of-result : goal.invariant_of-result
invariant_of-result g c = subst (λ (l : List Entry). KeepsJournal g.S.LookupSpan.registry g.S.Subscriber.usable c.args.dispatch l)
    (sym c.new.ensures) (begun_journal g.S.LookupSpan.registry g.S.Subscriber.usable c.args.dispatch c.requires.usable c.requires.fresh)
