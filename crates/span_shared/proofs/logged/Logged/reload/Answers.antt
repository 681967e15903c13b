use Rattle.std.proofs.Common.{◌∙◌, ap}
use Rattle.span_dispatch.proofs.Ready.{unset_from, unset_ready}
use Rattle.span_shared.proofs.Journalled.{grown, stays, logs_refused}
use Rattle.span_shared.specs.Journal.{Entry}
use Rattle.span_dispatch.specs.Serve.{stack_of}
use Rattle.span_shared.specs.declared.entry.EntryWith.TheVariants as entry
use Rattle.span_shared.proofs.logged.Logged.reload.Goals as goal

pub invariant_of-self-2 : goal.invariant_of-self-2
invariant_of-self-2 g c =
    let old = c.self.inside in
    let e : Entry = entry.Reload c.args.lane c.args.number c.level.result in
    grown g.S.LookupSpan.registry g.S.Subscriber.usable old.dispatch c.reload.new.self old.journal c.reserve.new.self.items c.noted-receipt.new.entries.items
    e c.self.invariant c.noted-receipt.ensures.journal (c.reserve.ensures.items ∙ c.journal.view_is) c.reload.ensures.usable
    (stays (g.S.LookupSpan.registry (stack_of old.dispatch)) (g.S.LookupSpan.registry (stack_of c.reload.new.self)) c.reload.ensures.sets.registry)

pub returns-in_err-reserve-clause-ready : goal.returns-in_err-reserve-clause-ready
returns-in_err-reserve-clause-ready g c = unset_ready c.args.number c.args.self.now.dispatch c.self.inside.dispatch (ap (λ l. l.dispatch) c.self.view_is)

pub returns-in_err-reload-clause-ready : goal.returns-in_err-reload-clause-ready
returns-in_err-reload-clause-ready g c = unset_from c.args.number
    c.args.self.now.dispatch c.self.inside.dispatch c.reload.new.self (ap (λ l. l.dispatch) c.self.view_is) c.reload.ensures.ready

pub returns-in_err-reload-clause-logs : goal.returns-in_err-reload-clause-logs
returns-in_err-reload-clause-logs g c = logs_refused c.self.view_is c.in_err-reload.field-0.0 c.from_residual-in_err-reload.result
    c.from_residual-in_err-reload.ensures.1 c.in_err-reload.ensures.sets (c.reserve.ensures.items ∙ c.journal.view_is)
