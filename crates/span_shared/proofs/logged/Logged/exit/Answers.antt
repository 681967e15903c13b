use Rattle.std.proofs.Common.{◌∙◌, ap}
use Rattle.span_dispatch.proofs.Ready.{unchanged_ready}
use Rattle.span_shared.proofs.Journalled.{exits, goes_on, grown}
use Rattle.span_shared.specs.Journal.{Entry}
use Rattle.span_dispatch.specs.Serve.{stack_of}
use Rattle.span_shared.specs.declared.entry.EntryWith.TheVariants as entry
use Rattle.span_store.specs.Step.{Exits}
use Rattle.span_shared.proofs.logged.Logged.exit.Goals as goal

pub invariant_of-self-2 : goal.invariant_of-self-2
invariant_of-self-2 g c =
    let old = c.self.inside in
    let e : Entry = entry.Exit c.args.lane c.args.id in
    grown g.S.LookupSpan.registry g.S.Subscriber.usable old.dispatch c.exit.new.self old.journal c.reserve.new.self.items
    c.noted-receipt.new.entries.items e c.self.invariant c.noted-receipt.ensures.journal (c.reserve.ensures.items ∙ c.journal.view_is) c.exit.ensures.usable
    (goes_on g.S.LookupSpan.registry
    (Exits c.args.lane c.args.id) (stack_of old.dispatch) (stack_of c.exit.new.self) e c.exit.ensures.exits.store (exits c.args.lane c.args.id))

pub returns-in_err-reserve-clause-ready : goal.returns-in_err-reserve-clause-ready
returns-in_err-reserve-clause-ready g c = unchanged_ready c.args.self.now.dispatch c.self.inside.dispatch (ap (λ l. l.dispatch) c.self.view_is)
