use Rattle.std.proofs.Common.{subst, ◌∙◌, ap}
use Rattle.span_dispatch.proofs.Ready.{unchanged_ready}
use Rattle.span_shared.proofs.Journalled.{drops_on, grown, logs_refused}
use Rattle.span_shared.specs.Journal.{Entry}
use Rattle.span_dispatch.specs.Serve.{stack_of}
use Rattle.span_shared.specs.declared.entry.EntryWith.TheVariants as entry
use Rattle.span_dispatch.specs.Call.{DropsSpan}
use Rattle.span_registry.specs.Subscriber.{AndHooks}
use Rattle.span_shared.proofs.logged.Logged.drop_span.Goals as goal

pub invariant_of-self-2 : goal.invariant_of-self-2
invariant_of-self-2 g c =
    let old = c.self.inside in
    let e : Entry = entry.Drop c.args.lane c.args.id c.in_ok-given.given in
    grown g.S.LookupSpan.registry g.S.Subscriber.usable old.dispatch c.drop_span.new.self old.journal c.reserve.new.self.items c.noted-receipt.new.entries.items
    e c.self.invariant c.noted-receipt.ensures.journal (c.reserve.ensures.items ∙ c.journal.view_is) c.drop_span.ensures.usable
    (drops_on g.S.LookupSpan.registry (stack_of old.dispatch) (stack_of c.drop_span.new.self)
    c.args.lane c.args.id c.in_ok-given.given (c.in_ok-given.ensures.drops.store c.self.invariant.settled) c.drop_span.ensures.drops.settled)

pub returns-clause-all : goal.returns-clause-all
returns-clause-all g c =
    subst (λ l. AndHooks g.S.LookupSpan.registry (DropsSpan c.args.id c.in_ok-given.given) (stack_of l.dispatch) (stack_of c.drop_span.new.self))
    c.self.view_is (c.in_ok-given.ensures.drops.store c.self.invariant.settled)

pub returns-in_err-reserve-clause-ready : goal.returns-in_err-reserve-clause-ready
returns-in_err-reserve-clause-ready g c = unchanged_ready c.args.self.now.dispatch c.self.inside.dispatch (ap (λ l. l.dispatch) c.self.view_is)

pub returns-in_err-given-clause-logs : goal.returns-in_err-given-clause-logs
returns-in_err-given-clause-logs g c = logs_refused c.self.view_is c.in_err-given.field-0.0
    c.from_residual-in_err-given.result c.from_residual-in_err-given.ensures.1 c.in_err-given.ensures.drops (c.reserve.ensures.items ∙ c.journal.view_is)
