use Rattle.std.proofs.Common.{◌∙◌, ap}
use Rattle.span_dispatch.proofs.Ready.{unchanged_ready}
use Rattle.span_shared.proofs.Journalled.{goes_on, grown, records, logs_refused}
use Rattle.span_shared.specs.Journal.{Entry}
use Rattle.span_dispatch.specs.Serve.{stack_of}
use Rattle.span_shared.specs.declared.entry.EntryWith.TheVariants as entry
use Rattle.span_dispatch.specs.Call.{FindsOpen}
use Rattle.span_shared.proofs.logged.Logged.record.Goals as goal

pub invariant_of-self-2 : goal.invariant_of-self-2
invariant_of-self-2 g c =
    let old = c.self.inside in
    let e : Entry = entry.Record c.args.lane c.args.id in
    grown g.S.LookupSpan.registry g.S.Subscriber.usable old.dispatch c.record.new.self old.journal c.reserve.new.self.items
    c.noted-receipt.new.entries.items e c.self.invariant c.noted-receipt.ensures.journal (c.reserve.ensures.items ∙ c.journal.view_is) c.record.ensures.usable
    (goes_on g.S.LookupSpan.registry
    (FindsOpen c.args.id) (stack_of old.dispatch) (stack_of c.record.new.self) e c.in_ok-record.ensures.records.store (records c.args.lane c.args.id))

pub returns-in_err-reserve-clause-ready : goal.returns-in_err-reserve-clause-ready
returns-in_err-reserve-clause-ready g c = unchanged_ready c.args.self.now.dispatch c.self.inside.dispatch (ap (λ l. l.dispatch) c.self.view_is)

pub returns-in_err-record-clause-logs : goal.returns-in_err-record-clause-logs
returns-in_err-record-clause-logs g c = logs_refused c.self.view_is c.in_err-record.field-0.0
    c.from_residual-in_err-record.result c.from_residual-in_err-record.ensures.1 c.in_err-record.ensures.records (c.reserve.ensures.items ∙ c.journal.view_is)
