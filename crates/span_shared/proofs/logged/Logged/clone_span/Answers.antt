use Rattle.std.proofs.Common.{◌∙◌, ap}
use Rattle.span_dispatch.proofs.Ready.{unchanged_ready}
use Rattle.span_shared.proofs.Journalled.{clones, grown, logs_refused}
use Rattle.span_shared.specs.Journal.{Entry}
use Rattle.span_dispatch.specs.Serve.{stack_of}
use Rattle.span_shared.specs.declared.entry.EntryWith.TheVariants as entry
use Rattle.span_shared.proofs.logged.Logged.clone_span.Goals as goal

pub invariant_of-self-2 : goal.invariant_of-self-2
invariant_of-self-2 g c =
    let old = c.self.inside in
    let e : Entry = entry.Clone c.args.lane c.args.id in
    grown g.S.LookupSpan.registry
    g.S.Subscriber.usable old.dispatch c.clone_span.new.self old.journal c.reserve.new.self.items c.noted-receipt.new.entries.items
    e c.self.invariant c.noted-receipt.ensures.journal (c.reserve.ensures.items ∙ c.journal.view_is) c.clone_span.ensures.usable
    (clones c.args.lane
    c.args.id (g.S.LookupSpan.registry (stack_of old.dispatch)) (g.S.LookupSpan.registry (stack_of c.clone_span.new.self)) c.in_ok-given.ensures.clones.store.0)

pub returns-in_err-reserve-clause-ready : goal.returns-in_err-reserve-clause-ready
returns-in_err-reserve-clause-ready g c = unchanged_ready c.args.self.now.dispatch c.self.inside.dispatch (ap (λ l. l.dispatch) c.self.view_is)

pub returns-in_err-given-clause-logs : goal.returns-in_err-given-clause-logs
returns-in_err-given-clause-logs g c = logs_refused c.self.view_is c.in_err-given.field-0.0
    c.from_residual-in_err-given.result c.from_residual-in_err-given.ensures.1 c.in_err-given.ensures.clones (c.reserve.ensures.items ∙ c.journal.view_is)
