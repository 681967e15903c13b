use Rattle.std.proofs.Common.{ap, sym, subst, ◌∙◌}
use Rattle.span_dispatch.proofs.Ready.{unchanged_ready}
use Rattle.span_shared.proofs.Journalled.{grown, kept_same, stays, logs_refused}
use Rattle.span_shared.specs.Journal.{Entry}
use Rattle.span_dispatch.specs.Serve.{stack_of}
use Rattle.span_shared.specs.declared.entry.EntryWith.TheVariants as entry
use Rattle.span_shared.proofs.logged.Logged.enabled.Goals as goal

pub invariant_of-self-in_err-given : goal.invariant_of-self-in_err-given
invariant_of-self-in_err-given g c =
    kept_same g.S.LookupSpan.registry g.S.Subscriber.usable c.self.inside.dispatch
    c.enabled.new.self c.self.inside.journal c.reserve.new.self.items c.self.invariant (c.reserve.ensures.items ∙ c.journal.view_is) c.enabled.ensures.stack

pub invariant_of-self-2 : goal.invariant_of-self-2
invariant_of-self-2 g c =
    let old = c.self.inside in
    let e : Entry = entry.Probe c.args.lane c.args.meta.now c.in_ok-given.given in
    grown g.S.LookupSpan.registry g.S.Subscriber.usable
    old.dispatch c.enabled.new.self old.journal c.reserve.new.self.items c.noted-receipt.new.entries.items e c.self.invariant c.noted-receipt.ensures.journal
    (c.reserve.ensures.items ∙ c.journal.view_is) (subst g.S.Subscriber.usable (sym c.enabled.ensures.stack) c.self.invariant.may)
    (stays (g.S.LookupSpan.registry (stack_of old.dispatch))
    (g.S.LookupSpan.registry (stack_of c.enabled.new.self)) (ap g.S.LookupSpan.registry c.enabled.ensures.stack))

pub returns-in_err-reserve-clause-ready : goal.returns-in_err-reserve-clause-ready
returns-in_err-reserve-clause-ready g c = unchanged_ready c.args.self.now.dispatch c.self.inside.dispatch (ap (λ l. l.dispatch) c.self.view_is)

pub returns-in_err-given-clause-logs : goal.returns-in_err-given-clause-logs
returns-in_err-given-clause-logs g c = logs_refused c.self.view_is c.in_err-given.field-0.0
    c.from_residual-in_err-given.result c.from_residual-in_err-given.ensures.1 c.in_err-given.ensures.probes (c.reserve.ensures.items ∙ c.journal.view_is)
