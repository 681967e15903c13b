use Rattle.std.proofs.Common.{◌∙◌}
use Rattle.span_shared.proofs.Journalled.{grown, shows}
use Rattle.span_shared.specs.Journal.{Entry}
use Rattle.span_dispatch.specs.Serve.{stack_of}
use Rattle.span_shared.specs.declared.entry.EntryWith.TheVariants as entry
use Rattle.span_shared.proofs.logged.Logged.current_span.Goals as goal

pub invariant_of-self-2 : goal.invariant_of-self-2
invariant_of-self-2 g c =
    let old = c.self.inside in
    let e : Entry = entry.Current c.args.lane c.id.result in
    grown g.S.LookupSpan.registry g.S.Subscriber.usable old.dispatch old.dispatch old.journal c.reserve.new.self.items
    c.noted-receipt.new.entries.items e c.self.invariant c.noted-receipt.ensures.journal (c.reserve.ensures.items ∙ c.journal.view_is) c.self.invariant.may
    (shows c.args.lane
    c.current_span-given.result (g.S.LookupSpan.registry (stack_of old.dispatch)) c.current_span-given.ensures.shown c.id.result c.id.ensures)
