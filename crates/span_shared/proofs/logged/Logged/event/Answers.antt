use Rattle.std.proofs.Common.{◌∙◌, ap}
use Rattle.span_dispatch.proofs.Ready.{unchanged_ready}
use Rattle.span_shared.proofs.Journalled.{goes_on, grown, kept_same, stays, logs_refused}
use Rattle.span_shared.specs.Journal.{Entry}
use Rattle.span_dispatch.specs.Serve.{stack_of}
use Rattle.span_shared.specs.declared.entry.EntryWith.TheVariants as entry
use Rattle.span_registry.specs.Hooks.{Stays}
use Rattle.span_shared.proofs.logged.Logged.event.Goals as goal

pub invariant_of-self-in_err-made : goal.invariant_of-self-in_err-made
invariant_of-self-in_err-made g c =
    kept_same g.S.LookupSpan.registry g.S.Subscriber.usable c.self.inside.dispatch c.event.new.self
    c.self.inside.journal c.reserve.new.self.items c.self.invariant (c.reserve.ensures.items ∙ c.journal.view_is) c.in_err-made.ensures.sends.unchanged

pub invariant_of-self-2 : goal.invariant_of-self-2
invariant_of-self-2 g c =
    let old = c.self.inside in
    let e : Entry = entry.Event c.args.lane c.metadata.result c.asked_parent.result c.in_ok-made.made in
    grown g.S.LookupSpan.registry g.S.Subscriber.usable old.dispatch c.event.new.self old.journal c.reserve.new.self.items
    c.noted-receipt.new.entries.items e c.self.invariant c.noted-receipt.ensures.journal (c.reserve.ensures.items ∙ c.journal.view_is) c.event.ensures.usable
    (goes_on g.S.LookupSpan.registry Stays (stack_of old.dispatch) (stack_of c.event.new.self) e c.event.ensures.sends.store stays)

pub returns-in_err-reserve-clause-ready : goal.returns-in_err-reserve-clause-ready
returns-in_err-reserve-clause-ready g c = unchanged_ready c.args.self.now.dispatch c.self.inside.dispatch (ap (λ l. l.dispatch) c.self.view_is)

pub returns-in_err-made-clause-logs : goal.returns-in_err-made-clause-logs
returns-in_err-made-clause-logs g c = logs_refused c.self.view_is c.in_err-made.field-0.0
    c.from_residual-in_err-made.result c.from_residual-in_err-made.ensures.1 c.in_err-made.ensures.sends (c.reserve.ensures.items ∙ c.journal.view_is)
