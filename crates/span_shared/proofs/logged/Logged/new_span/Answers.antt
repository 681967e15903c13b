use Rattle.std.proofs.Common.{◌≡◌, List, None, Some, ap, rules, sym, subst, ◌∙◌}
use Rattle.span_dispatch.proofs.Ready.{unchanged_ready}
use Rattle.span_shared.proofs.Journalled.{goes_on, grown, kept_same, kept_verdict, opens, some_of, none_of, stays, logs_done, logs_refused}
use Rattle.span_dispatch.proofs.Stores.{opens_span}
use Rattle.span_shared.specs.Journal.{Adds, Entry}
use Rattle.span_dispatch.specs.Serve.{stack_of}
use Rattle.span_shared.specs.declared.entry.EntryWith.TheVariants as entry
use Rattle.span_shared.proofs.Journalled.{Goes}
use Rattle.span_store.specs.Step as step
use Rattle.span_store.specs.Step.{RefusesNew}
use Rattle.span_store.specs.Store.{RegistryState}
use Rattle.span_shared.proofs.logged.Logged.new_span.Goals as goal

pub invariant_of-self-in_err-id : goal.invariant_of-self-in_err-id
invariant_of-self-in_err-id g c =
    kept_same g.S.LookupSpan.registry g.S.Subscriber.usable c.self.inside.dispatch c.new_span_with.new.self
    c.self.inside.journal c.reserve.new.self.items c.self.invariant (c.reserve.ensures.items ∙ c.journal.view_is) c.in_err-id.ensures.opens.unchanged

pub invariant_of-self-in_default : goal.invariant_of-self-in_default
invariant_of-self-in_default g c =
    let old = c.self.inside in
    let e : Entry = entry.Unmade c.args.lane c.metadata.result in
    grown g.S.LookupSpan.registry
    g.S.Subscriber.usable old.dispatch c.new_span_with.new.self old.journal c.reserve.new.self.items c.noted-receipt.new.entries.items
    e c.self.invariant c.noted-receipt.ensures.journal (c.reserve.ensures.items ∙ c.journal.view_is) c.new_span_with.ensures.usable
    (stays (g.S.LookupSpan.registry (stack_of old.dispatch)) (g.S.LookupSpan.registry (stack_of c.new_span_with.new.self))
    (ap g.S.LookupSpan.registry (none_of c.in_ok-id.field-0 _ _ c.in_default.is c.in_ok-id.ensures.opens.store)))

pub invariant_of-self-2 : goal.invariant_of-self-2
invariant_of-self-2 g c =
    let old = c.self.inside in
    let s : RegistryState = g.S.LookupSpan.registry (stack_of old.dispatch) in
    let t : RegistryState = g.S.LookupSpan.registry (stack_of c.new_span_with.new.self) in
    let span = step.asked c.args.attrs.now c.new_span_with.new.pass in
    let e : Entry = entry.New c.args.lane c.metadata-2.result c.asked_parent.result c.refused.result c.in-Some.id in
    let f : Entry = entry.New c.args.lane span.metadata span.parent span.verdict c.in-Some.id in
    let went : Goes s f t =
    goes_on g.S.LookupSpan.registry (step.Opens c.args.lane span c.in-Some.id) (stack_of old.dispatch) (stack_of c.new_span_with.new.self) f
    (some_of c.in_ok-id.field-0 _ _ c.in-Some.id c.in-Some.is c.in_ok-id.ensures.opens.store) (opens c.args.lane span c.in-Some.id) in
    let go : Goes s e t = subst (λ x. Goes s x t)
    (λ i. entry.New c.args.lane (sym c.metadata-2.ensures i) (sym c.asked_parent.ensures i) (sym c.refused.ensures i) c.in-Some.id) went in
    grown g.S.LookupSpan.registry
    g.S.Subscriber.usable old.dispatch c.new_span_with.new.self old.journal c.reserve.new.self.items c.noted-receipt-2.new.entries.items
    e c.self.invariant c.noted-receipt-2.ensures.journal (c.reserve.ensures.items ∙ c.journal.view_is) c.new_span_with.ensures.usable go

pub returns-clause-logs : goal.returns-clause-logs
returns-clause-logs g c =
    let span = step.asked c.args.attrs.now c.new_span_with.new.pass in
    let kept = kept_verdict g.S.LookupSpan.registry (stack_of c.self.inside.dispatch) (stack_of c.new_span_with.new.self)
    c.args.lane span c.in-Some.id (some_of c.in_ok-id.field-0 _ _ c.in-Some.id c.in-Some.is c.in_ok-id.ensures.opens.store) in
    let old : c.reserve.new.self.items ≡ c.args.self.now.journal = (c.reserve.ensures.items ∙ c.journal.view_is) ∙ ap (λ l. l.journal) c.self.view_is in
    let entries : Entry × List Entry → Type 0 = λ p. Adds p.0 p.1 c.noted-receipt-2.result c.noted-receipt-2.new.entries.items in
    logs_done c.self.view_is
    c.in_ok-id.field-0 (Some c.in-Some.id) c.noted-receipt-2.result c.in-Some.is (opens_span c.new_span_with.new.pass c.in_ok-id.ensures.opens) (
      kept.0,
      kept.1,
      subst entries (λ i. (entry.New c.args.lane (c.metadata-2.ensures i) (c.asked_parent.ensures i) ((c.refused.ensures ∙ sym kept.2) i) c.in-Some.id, old i))
          c.noted-receipt-2.ensures,
    )

pub returns-in_default-clause-logs : goal.returns-in_default-clause-logs
returns-in_default-clause-logs g c = logs_done c.self.view_is
    c.in_ok-id.field-0 None c.noted-receipt.result c.in_default.is (opens_span c.new_span_with.new.pass c.in_ok-id.ensures.opens) (search rules)

pub returns-in_err-reserve-clause-ready : goal.returns-in_err-reserve-clause-ready
returns-in_err-reserve-clause-ready g c = unchanged_ready c.args.self.now.dispatch c.self.inside.dispatch (ap (λ l. l.dispatch) c.self.view_is)

pub returns-in_err-id-clause-logs : goal.returns-in_err-id-clause-logs
returns-in_err-id-clause-logs g c = logs_refused c.self.view_is c.in_err-id.field-0.0 c.from_residual-in_err-id.result
    c.from_residual-in_err-id.ensures.1 (opens_span c.new_span_with.new.pass c.in_err-id.ensures.opens) (c.reserve.ensures.items ∙ c.journal.view_is)
