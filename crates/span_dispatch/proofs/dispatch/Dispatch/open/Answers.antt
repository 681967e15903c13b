use Rattle.span_dispatch.proofs.Ready.{same_ready, stays_ready}
use Rattle.std.proofs.Common.{[], Err, None, Ok, Some, ap, inl, inr, refl, subst, sym, ◌∙◌}
use Rattle.span_core.specs.Span.{asked_parent, metadata_of}
use Rattle.span_dispatch.proofs.Calls.{dropped_exactly, made_exactly, refused_exactly, span_made, unknown_exactly}
use Rattle.span_dispatch.proofs.Goes.{served_so}
use Rattle.span_dispatch.proofs.Stores.{Wanted, metadata_wanted, opened_by, room_for}
use Rattle.span_dispatch.proofs.Admits.{below_before, let_by_below}
use Rattle.span_dispatch.specs.private.Step.{IsAdmitted, RefusesOpening}
use Rattle.span_dispatch.specs.Serve.{KeepsUpToDate, hint_by, kept_by, stack_of, with_stack}
use Rattle.span_store.specs.Step.{RefusesNew}
use Rattle.span_registry.specs.Hooks.{OpensAndNotifies}
use Rattle.span_dispatch.proofs.Sends.{dropped_by, made_by, of_same, refused_first, refused_then}
use Rattle.span_dispatch.specs.Cache.{RefusesInterest}
use Rattle.span_dispatch.proofs.dispatch.Dispatch.open.Goals as goal

pub returns-in-Err-clause-ready : goal.returns-in-Err-clause-ready
returns-in-Err-clause-ready g c = same_ready c.args.self.now c.admits_by.new.self (ap stack_of c.admits_by.ensures.rest) c.admits_by.ensures.up_to_date

pub returns-in-Ok-false-clause-ready : goal.returns-in-Ok-false-clause-ready
returns-in-Ok-false-clause-ready g c = same_ready c.args.self.now c.admits_by.new.self (ap stack_of c.admits_by.ensures.rest) c.admits_by.ensures.up_to_date

pub returns-in-Ok-clause-ready : goal.returns-in-Ok-clause-ready
returns-in-Ok-clause-ready g c =
    stays_ready c.args.self.now (with_stack c.admits_by.new.self c.new_span.new.self) (λ f k u. let h = k.honest in (span_made g.met.S.Subscriber.laws
    g.met.S.LookupSpan.with_own g.S.Subscriber.reloaded
    c.args.lane c.args.attrs.now c.metadata.result c.admits_by.new.pass c.in-Ok.id f (stack_of c.args.self.now)
    c.new_span.new.self c.metadata.ensures ((subst (λ b. IsAdmitted (kept_by c.args.self.now) f (g.S.LookupSpan.registry (stack_of c.args.self.now))
    c.args.lane c.metadata.result c.admits_by.new.pass (kept_by c.admits_by.new.self) (Ok b)) c.in-Ok-true.field-0-test (c.in-Ok-true.ensures.admitted f h u)).1
    refl)
    (subst (λ x. OpensAndNotifies g.S.LookupSpan.registry g.S.Subscriber.has_form g.S.Subscriber.stepped c.args.lane c.args.attrs.now
    c.admits_by.new.pass x c.new_span.new.self c.in-Ok.id) (ap stack_of c.admits_by.ensures.rest) c.in-Ok.ensures.opened) h).1 k.settled)
    c.admits_by.ensures.up_to_date

pub returns-in-Err-new_span-clause-ready : goal.returns-in-Err-new_span-clause-ready
returns-in-Err-new_span-clause-ready g c = same_ready c.args.self.now
    (with_stack c.admits_by.new.self c.new_span.new.self) (c.in-Err-new_span.ensures.unchanged ∙ (ap stack_of c.admits_by.ensures.rest))
    c.admits_by.ensures.up_to_date

pub returns-in-Err-clause-opens : goal.returns-in-Err-clause-opens
returns-in-Err-clause-opens g c = record {
  served = λ f h u. served_so ([], record { says = refl; goes = sym (ap stack_of c.admits_by.ensures.rest) }) (unknown_exactly g.met.S.Subscriber.laws
      g.met.S.LookupSpan.with_own g.S.Subscriber.reloaded f (kept_by c.args.self.now) (kept_by c.admits_by.new.self) (g.S.LookupSpan.registry (stack_of
      c.args.self.now))
      c.args.lane c.args.attrs.now c.metadata.result c.admits_by.new.pass c.metadata.ensures c.in-Err.error (c.in-Err.ensures.admitted f h u));
  kept = of_same (λ m e. RefusesOpening g.S.LookupSpan.registry c.args.lane m (asked_parent c.args.attrs.now) c.args.self.now e)
      c.metadata.result (metadata_of c.args.attrs.now) None (Err c.in-Err.error) c.args.self.now c.admits_by.new.self c.metadata.ensures
      (refused_first None (RefusesOpening g.S.LookupSpan.registry c.args.lane c.metadata.result (asked_parent c.args.attrs.now) c.args.self.now)
      (c.in-Err.ensures.kept.refused.0, inl c.in-Err.ensures.kept.refused.1) c.in-Err.ensures.kept);
  up_to_date = c.admits_by.ensures.up_to_date;
  asked = inl (subst (λ m. RefusesInterest (kept_by c.args.self.now) m c.in-Err.error) c.metadata.ensures c.in-Err.ensures.kept.refused.1);
  store = tt;
  unchanged = (ap stack_of c.admits_by.ensures.rest);
}

pub returns-in-Ok-false-clause-opens : goal.returns-in-Ok-false-clause-opens
returns-in-Ok-false-clause-opens g c = record {
  served = λ f h u. served_so ([], record { says = refl; goes = sym (ap stack_of c.admits_by.ensures.rest) })
      (dropped_exactly g.met.S.Subscriber.laws g.met.S.LookupSpan.with_own g.S.Subscriber.reloaded f
      (kept_by c.args.self.now) (kept_by c.admits_by.new.self)
      (g.S.LookupSpan.registry (stack_of c.args.self.now)) c.args.lane c.args.attrs.now c.metadata.result
      c.admits_by.new.pass c.metadata.ensures (subst (λ b. IsAdmitted (kept_by c.args.self.now) f (g.S.LookupSpan.registry (stack_of c.args.self.now))
      c.args.lane c.metadata.result c.admits_by.new.pass (kept_by c.admits_by.new.self) (Ok b))
      c.in-Ok-false.field-0-test (c.in-Ok-false.ensures.admitted f h u)));
  kept = of_same (λ m e. RefusesOpening g.S.LookupSpan.registry c.args.lane m (asked_parent c.args.attrs.now) c.args.self.now e)
      c.metadata.result (metadata_of c.args.attrs.now) None (Ok None) c.args.self.now c.admits_by.new.self c.metadata.ensures
      (dropped_by None
      (RefusesOpening g.S.LookupSpan.registry c.args.lane c.metadata.result (asked_parent c.args.attrs.now) c.args.self.now) c.in-Ok-false.ensures.kept);
  up_to_date = c.admits_by.ensures.up_to_date;
  asked = subst (λ b. Wanted g.S.LookupSpan.registry g.S.Subscriber.has_form c.args.lane (stack_of c.args.self.now) (kept_by c.args.self.now)
      (λ f. KeepsUpToDate f (g.S.LookupSpan.registry (stack_of c.args.self.now)).filters c.args.self.now) (metadata_of c.args.attrs.now) b)
      c.in-Ok-false.field-0-test
      (metadata_wanted g.S.LookupSpan.registry g.S.Subscriber.has_form c.args.lane (stack_of c.args.self.now) (kept_by c.args.self.now)
      (λ f. KeepsUpToDate f (g.S.LookupSpan.registry (stack_of c.args.self.now)).filters c.args.self.now) c.metadata.result
      (metadata_of c.args.attrs.now) c.admits_by.new.pass c.in-Ok-false.field-0 c.metadata.ensures c.in-Ok-false.ensures.decided);
  store = (ap stack_of c.admits_by.ensures.rest);
  unchanged = tt;
}

pub returns-in-Ok-clause-opens : goal.returns-in-Ok-clause-opens
returns-in-Ok-clause-opens g c = record {
  served = λ f h u. served_so ((span_made g.met.S.Subscriber.laws g.met.S.LookupSpan.with_own
      g.S.Subscriber.reloaded c.args.lane c.args.attrs.now c.metadata.result c.admits_by.new.pass c.in-Ok.id f (stack_of c.args.self.now) c.new_span.new.self
      c.metadata.ensures ((subst (λ b. IsAdmitted (kept_by c.args.self.now) f (g.S.LookupSpan.registry (stack_of c.args.self.now)) c.args.lane
      c.metadata.result c.admits_by.new.pass (kept_by c.admits_by.new.self) (Ok b)) c.in-Ok-true.field-0-test (c.in-Ok-true.ensures.admitted f h u)).1 refl)
      (subst (λ x. OpensAndNotifies g.S.LookupSpan.registry g.S.Subscriber.has_form g.S.Subscriber.stepped
      c.args.lane c.args.attrs.now c.admits_by.new.pass x c.new_span.new.self c.in-Ok.id) (ap stack_of c.admits_by.ensures.rest) c.in-Ok.ensures.opened) h).0)
      (made_exactly g.met.S.Subscriber.laws g.met.S.LookupSpan.with_own g.S.Subscriber.reloaded f (kept_by c.args.self.now)
      (kept_by c.admits_by.new.self) (g.S.LookupSpan.registry (stack_of c.args.self.now)) c.args.lane c.args.attrs.now c.metadata.result c.admits_by.new.pass
      c.metadata.ensures c.in-Ok.id (room_for g.S.LookupSpan.registry c.args.lane c.args.attrs.now c.admits_by.new.pass (stack_of c.args.self.now)
      c.new_span.new.self c.in-Ok.id (subst (λ x. OpensAndNotifies g.S.LookupSpan.registry g.S.Subscriber.has_form g.S.Subscriber.stepped
      c.args.lane c.args.attrs.now c.admits_by.new.pass x c.new_span.new.self c.in-Ok.id) (ap stack_of c.admits_by.ensures.rest) c.in-Ok.ensures.opened))
      (subst (λ b. IsAdmitted (kept_by c.args.self.now) f (g.S.LookupSpan.registry (stack_of c.args.self.now))
      c.args.lane c.metadata.result c.admits_by.new.pass (kept_by c.admits_by.new.self) (Ok b))
      c.in-Ok-true.field-0-test (c.in-Ok-true.ensures.admitted f h u)));
  kept = of_same (λ m e. RefusesOpening g.S.LookupSpan.registry c.args.lane m (asked_parent c.args.attrs.now) c.args.self.now e) c.metadata.result
      (metadata_of c.args.attrs.now) None (Ok (Some c.in-Ok.id)) c.args.self.now (with_stack c.admits_by.new.self c.new_span.new.self) c.metadata.ensures
      (made_by None (RefusesOpening g.S.LookupSpan.registry c.args.lane c.metadata.result (asked_parent c.args.attrs.now) c.args.self.now)
      (Some c.in-Ok.id) c.new_span.new.self c.in-Ok-true.field-0-test c.in-Ok-true.ensures.kept);
  up_to_date = c.admits_by.ensures.up_to_date;
  asked = subst (λ b. Wanted g.S.LookupSpan.registry g.S.Subscriber.has_form c.args.lane (stack_of c.args.self.now) (kept_by c.args.self.now)
      (λ f. KeepsUpToDate f (g.S.LookupSpan.registry (stack_of c.args.self.now)).filters c.args.self.now) (metadata_of c.args.attrs.now) b)
      c.in-Ok-true.field-0-test
      (metadata_wanted g.S.LookupSpan.registry g.S.Subscriber.has_form c.args.lane (stack_of c.args.self.now) (kept_by c.args.self.now)
      (λ f. KeepsUpToDate f (g.S.LookupSpan.registry (stack_of c.args.self.now)).filters c.args.self.now) c.metadata.result
      (metadata_of c.args.attrs.now) c.admits_by.new.pass c.in-Ok-true.field-0 c.metadata.ensures c.in-Ok-true.ensures.decided);
  store = opened_by g.S.LookupSpan.registry c.args.lane c.args.attrs.now c.admits_by.new.pass (stack_of c.args.self.now) c.new_span.new.self c.in-Ok.id
      (subst (λ x. OpensAndNotifies g.S.LookupSpan.registry g.S.Subscriber.has_form g.S.Subscriber.stepped
      c.args.lane c.args.attrs.now c.admits_by.new.pass x c.new_span.new.self c.in-Ok.id) (ap stack_of c.admits_by.ensures.rest) c.in-Ok.ensures.opened);
  unchanged = tt;
}

pub returns-in-Err-new_span-clause-opens : goal.returns-in-Err-new_span-clause-opens
returns-in-Err-new_span-clause-opens g c = record {
  served = λ f h u. served_so ([], record { says = refl; goes = sym (c.in-Err-new_span.ensures.unchanged ∙ (ap stack_of c.admits_by.ensures.rest)) })
      (refused_exactly g.met.S.Subscriber.laws g.met.S.LookupSpan.with_own g.S.Subscriber.reloaded f (kept_by c.args.self.now) (kept_by c.admits_by.new.self)
      (g.S.LookupSpan.registry (stack_of c.args.self.now)) c.args.lane c.args.attrs.now c.metadata.result c.admits_by.new.pass c.metadata.ensures
      c.in-Err-new_span.error (subst (λ x. RefusesNew (g.S.LookupSpan.registry x) c.args.lane (asked_parent c.args.attrs.now) c.in-Err-new_span.error)
      (ap stack_of c.admits_by.ensures.rest) c.in-Err-new_span.ensures.refused)
      (subst (λ b. IsAdmitted (kept_by c.args.self.now) f (g.S.LookupSpan.registry (stack_of c.args.self.now))
      c.args.lane c.metadata.result c.admits_by.new.pass (kept_by c.admits_by.new.self) (Ok b))
      c.in-Ok-true.field-0-test (c.in-Ok-true.ensures.admitted f h u)));
  kept = of_same (λ m e. RefusesOpening g.S.LookupSpan.registry c.args.lane m (asked_parent c.args.attrs.now) c.args.self.now e) c.metadata.result
      (metadata_of c.args.attrs.now) None (Err c.in-Err-new_span.error) c.args.self.now (with_stack c.admits_by.new.self c.new_span.new.self) c.metadata.ensures
      (let passes = below_before (kept_by c.args.self.now) (hint_by c.args.self.now) (hint_by c.admits_by.new.self) c.metadata.result
      c.admits_by.ensures.kept.hint (let_by_below _ (Ok c.in-Ok-true.field-0) c.in-Ok-true.ensures.kept.above (λ i. Ok (c.in-Ok-true.field-0-test i))) in
      refused_then None (RefusesOpening g.S.LookupSpan.registry c.args.lane c.metadata.result (asked_parent c.args.attrs.now) c.args.self.now)
      c.in-Err-new_span.error c.new_span.new.self c.in-Ok-true.field-0-test (
        passes,
        inr (subst (λ x. RefusesNew (g.S.LookupSpan.registry x) c.args.lane (asked_parent c.args.attrs.now) c.in-Err-new_span.error)
            (ap stack_of c.admits_by.ensures.rest) c.in-Err-new_span.ensures.refused),
      ) c.in-Ok-true.ensures.kept);
  up_to_date = c.admits_by.ensures.up_to_date;
  asked = inr (subst (λ b. Wanted g.S.LookupSpan.registry g.S.Subscriber.has_form c.args.lane (stack_of c.args.self.now) (kept_by c.args.self.now)
      (λ f. KeepsUpToDate f (g.S.LookupSpan.registry (stack_of c.args.self.now)).filters c.args.self.now) (metadata_of c.args.attrs.now) b)
      c.in-Ok-true.field-0-test
      (metadata_wanted g.S.LookupSpan.registry g.S.Subscriber.has_form c.args.lane (stack_of c.args.self.now) (kept_by c.args.self.now)
      (λ f. KeepsUpToDate f (g.S.LookupSpan.registry (stack_of c.args.self.now)).filters c.args.self.now) c.metadata.result
      (metadata_of c.args.attrs.now) c.admits_by.new.pass c.in-Ok-true.field-0 c.metadata.ensures c.in-Ok-true.ensures.decided));
  store = tt;
  unchanged = c.in-Err-new_span.ensures.unchanged ∙ (ap stack_of c.admits_by.ensures.rest);
}
