use Rattle.span_dispatch.proofs.Ready.{same_ready, stays_ready}
use Rattle.span_core.specs.Event.{event_metadata}
use Rattle.std.proofs.Common.{[], true, false, Ok, Err, refl, subst, sym, ap}
use Rattle.span_dispatch.proofs.Calls.{event_dropped_exactly, event_made, event_made_exactly, event_unknown_exactly, event_vetoed_exactly}
use Rattle.span_dispatch.proofs.Goes.{served_so}
use Rattle.span_dispatch.proofs.Stores.{Decided, event_refused, event_unwanted, event_wanted, no_step}
use Rattle.span_dispatch.specs.private.Step.{IsAdmitted}
use Rattle.span_dispatch.specs.Serve.{KeepsUpToDate, kept_by, stack_of, with_stack}
use Rattle.span_registry.proofs.CallerLemmas.{and_hooks}
use Rattle.span_registry.specs.Behaviour.{OnEvent}
use Rattle.span_registry.specs.Hooks.{AnswersEvent, Notifies, Stays}
use Rattle.span_registry.specs.Question.{refusals}
use Rattle.span_registry.specs.Subscriber.{AndHooks}
use Rattle.span_dispatch.proofs.Sends.{dropped_by, made_by, of_same}
use Rattle.span_dispatch.specs.Contract.{RefusesMetadata}
use Rattle.span_dispatch.proofs.dispatch.Dispatch.send.Goals as goal

pub returns-in-Err-clause-ready : goal.returns-in-Err-clause-ready
returns-in-Err-clause-ready g c = same_ready c.args.self.now c.admits_by.new.self (ap stack_of c.admits_by.ensures.rest) c.admits_by.ensures.up_to_date

pub returns-in-Err-clause-sends : goal.returns-in-Err-clause-sends
returns-in-Err-clause-sends g c = record {
  served = λ f h u. served_so ([], record { says = refl; goes = sym (ap stack_of c.admits_by.ensures.rest) }) (event_unknown_exactly g.met.S.Subscriber.laws
      g.met.S.LookupSpan.with_own g.S.Subscriber.reloaded f (kept_by c.args.self.now) (kept_by c.admits_by.new.self) (stack_of c.args.self.now)
      c.args.lane c.args.event.now c.metadata.result c.admits_by.new.pass c.metadata.ensures h c.in-Err.error (c.in-Err.ensures.admitted f h u));
  kept = of_same (λ m. RefusesMetadata m c.args.self.now)
      c.metadata.result (event_metadata c.args.event.now) false (Err c.in-Err.error) c.args.self.now c.admits_by.new.self c.metadata.ensures
      c.in-Err.ensures.kept;
  up_to_date = c.admits_by.ensures.up_to_date;
  asked = tt;
  store = subst (λ y. AndHooks g.S.LookupSpan.registry Stays (stack_of c.args.self.now) y)
      (sym (ap stack_of c.admits_by.ensures.rest)) (no_step g.S.LookupSpan.registry (stack_of c.args.self.now));
  dropped = λ i. (ap stack_of c.admits_by.ensures.rest);
  unchanged = (ap stack_of c.admits_by.ensures.rest);
}

pub returns-in-Ok-false-clause-ready : goal.returns-in-Ok-false-clause-ready
returns-in-Ok-false-clause-ready g c = same_ready c.args.self.now c.admits_by.new.self (ap stack_of c.admits_by.ensures.rest) c.admits_by.ensures.up_to_date

pub returns-in-Ok-false-clause-sends : goal.returns-in-Ok-false-clause-sends
returns-in-Ok-false-clause-sends g c = record {
  served = λ f h u. served_so ([], record { says = refl; goes = sym (ap stack_of c.admits_by.ensures.rest) })
      (event_dropped_exactly g.met.S.Subscriber.laws g.met.S.LookupSpan.with_own
      g.S.Subscriber.reloaded f
      (kept_by c.args.self.now) (kept_by c.admits_by.new.self) (stack_of c.args.self.now) c.args.lane c.args.event.now c.metadata.result
      c.admits_by.new.pass c.metadata.ensures h (subst (λ b. IsAdmitted (kept_by c.args.self.now) f (g.S.LookupSpan.registry (stack_of c.args.self.now))
      c.args.lane c.metadata.result c.admits_by.new.pass (kept_by c.admits_by.new.self) (Ok b))
      c.in-Ok-false.field-0-test (c.in-Ok-false.ensures.admitted f h u)));
  kept = of_same (λ m. RefusesMetadata m c.args.self.now)
      c.metadata.result (event_metadata c.args.event.now) false (Ok false) c.args.self.now c.admits_by.new.self c.metadata.ensures
      (dropped_by false (RefusesMetadata c.metadata.result c.args.self.now) c.in-Ok-false.ensures.kept);
  up_to_date = c.admits_by.ensures.up_to_date;
  asked = event_unwanted g.S.LookupSpan.registry g.S.Subscriber.has_form c.args.lane (stack_of c.args.self.now) (kept_by c.args.self.now)
      (λ f. KeepsUpToDate f (g.S.LookupSpan.registry (stack_of c.args.self.now)).filters c.args.self.now) c.args.event.now
      c.metadata.result c.admits_by.new.pass _ c.metadata.ensures refl
      (subst (λ b. Decided g.S.LookupSpan.registry g.S.Subscriber.has_form c.args.lane (stack_of c.args.self.now) (kept_by c.args.self.now)
      (λ f. KeepsUpToDate f (g.S.LookupSpan.registry (stack_of c.args.self.now)).filters c.args.self.now) c.metadata.result b c.admits_by.new.pass)
      c.in-Ok-false.field-0-test c.in-Ok-false.ensures.decided);
  store = subst (λ y. AndHooks g.S.LookupSpan.registry Stays (stack_of c.args.self.now) y)
      (sym (ap stack_of c.admits_by.ensures.rest)) (no_step g.S.LookupSpan.registry (stack_of c.args.self.now));
  dropped = λ i. (ap stack_of c.admits_by.ensures.rest);
  unchanged = tt;
}

pub returns-then-not-event_enabled-clause-ready : goal.returns-then-not-event_enabled-clause-ready
returns-then-not-event_enabled-clause-ready g c =
    same_ready c.args.self.now c.admits_by.new.self (ap stack_of c.admits_by.ensures.rest) c.admits_by.ensures.up_to_date

pub returns-then-not-event_enabled-clause-sends : goal.returns-then-not-event_enabled-clause-sends
returns-then-not-event_enabled-clause-sends g c = record {
  served = λ f h u. served_so ([], record { says = refl; goes = sym (ap stack_of c.admits_by.ensures.rest) })
      (event_vetoed_exactly
      g.met.S.Subscriber.laws g.met.S.LookupSpan.with_own g.S.Subscriber.reloaded f (kept_by c.args.self.now) (kept_by c.admits_by.new.self)
      (stack_of c.args.self.now) c.args.lane c.args.event.now c.metadata.result c.admits_by.new.pass c.metadata.ensures h c.event_enabled.new.pass
      c.event_enabled.result c.if-not-event_enabled.true (subst (λ x. AnswersEvent g.S.LookupSpan.registry g.S.Subscriber.has_form x c.args.lane
      c.args.event.now c.admits_by.new.pass c.event_enabled.result c.event_enabled.new.pass) (ap stack_of c.admits_by.ensures.rest) c.event_enabled.ensures)
      (subst (λ b. IsAdmitted (kept_by c.args.self.now) f (g.S.LookupSpan.registry (stack_of c.args.self.now))
      c.args.lane c.metadata.result c.admits_by.new.pass (kept_by c.admits_by.new.self) (Ok b))
      c.in-Ok-true.field-0-test (c.in-Ok-true.ensures.admitted f h u)));
  kept = of_same (λ m. RefusesMetadata m c.args.self.now)
      c.metadata.result (event_metadata c.args.event.now) false (Ok false) c.args.self.now c.admits_by.new.self c.metadata.ensures
      (dropped_by false (RefusesMetadata c.metadata.result c.args.self.now) c.in-Ok-true.ensures.kept);
  up_to_date = c.admits_by.ensures.up_to_date;
  asked = event_refused g.S.LookupSpan.registry g.S.Subscriber.has_form c.args.lane (stack_of c.args.self.now) (kept_by c.args.self.now)
      (λ f. KeepsUpToDate f (g.S.LookupSpan.registry (stack_of c.args.self.now)).filters c.args.self.now) c.args.event.now
      c.metadata.result c.admits_by.new.pass c.event_enabled.new.pass _ c.event_enabled.result c.metadata.ensures
      c.if-not-event_enabled.true c.in-Ok-true.ensures.decided
      (subst (λ x. AnswersEvent g.S.LookupSpan.registry g.S.Subscriber.has_form x c.args.lane
      c.args.event.now c.admits_by.new.pass c.event_enabled.result c.event_enabled.new.pass) (ap stack_of c.admits_by.ensures.rest) c.event_enabled.ensures);
  store = subst (λ y. AndHooks g.S.LookupSpan.registry Stays (stack_of c.args.self.now) y)
      (sym (ap stack_of c.admits_by.ensures.rest)) (no_step g.S.LookupSpan.registry (stack_of c.args.self.now));
  dropped = λ i. (ap stack_of c.admits_by.ensures.rest);
  unchanged = tt;
}

pub returns-else-not-event_enabled-clause-ready : goal.returns-else-not-event_enabled-clause-ready
returns-else-not-event_enabled-clause-ready g c = stays_ready c.args.self.now (with_stack c.admits_by.new.self c.event.new.self)
    (λ f k u. let h = k.honest in (event_made g.met.S.Subscriber.laws g.met.S.LookupSpan.with_own g.S.Subscriber.reloaded
    c.args.lane c.args.event.now c.metadata.result c.admits_by.new.pass c.event_enabled.new.pass c.event_enabled.result f (stack_of c.args.self.now)
    c.event.new.self c.metadata.ensures ((subst (λ b. IsAdmitted (kept_by c.args.self.now) f (g.S.LookupSpan.registry (stack_of c.args.self.now))
    c.args.lane c.metadata.result c.admits_by.new.pass (kept_by c.admits_by.new.self) (Ok b)) c.in-Ok-true.field-0-test (c.in-Ok-true.ensures.admitted f h u)).1
    refl)
    c.if-not-event_enabled.false (subst (λ x. AnswersEvent g.S.LookupSpan.registry g.S.Subscriber.has_form x
    c.args.lane c.args.event.now c.admits_by.new.pass c.event_enabled.result c.event_enabled.new.pass)
    (ap stack_of c.admits_by.ensures.rest) c.event_enabled.ensures)
    (subst (λ x. Notifies g.S.LookupSpan.registry g.S.Subscriber.has_form g.S.Subscriber.stepped c.args.lane (refusals c.event_enabled.new.pass)
    (OnEvent c.args.event.now) Stays x c.event.new.self) (ap stack_of c.admits_by.ensures.rest) c.event.ensures.hooks) h).1 k.settled)
    c.admits_by.ensures.up_to_date

pub returns-else-not-event_enabled-clause-sends : goal.returns-else-not-event_enabled-clause-sends
returns-else-not-event_enabled-clause-sends g c = record {
  served = λ f h u. served_so ((event_made g.met.S.Subscriber.laws g.met.S.LookupSpan.with_own g.S.Subscriber.reloaded
      c.args.lane c.args.event.now c.metadata.result c.admits_by.new.pass c.event_enabled.new.pass c.event_enabled.result f (stack_of c.args.self.now)
      c.event.new.self c.metadata.ensures ((subst (λ b. IsAdmitted (kept_by c.args.self.now) f (g.S.LookupSpan.registry (stack_of c.args.self.now)) c.args.lane
      c.metadata.result c.admits_by.new.pass (kept_by c.admits_by.new.self) (Ok b)) c.in-Ok-true.field-0-test (c.in-Ok-true.ensures.admitted f h u)).1 refl)
      c.if-not-event_enabled.false (subst (λ x. AnswersEvent g.S.LookupSpan.registry g.S.Subscriber.has_form x c.args.lane
      c.args.event.now c.admits_by.new.pass c.event_enabled.result c.event_enabled.new.pass) (ap stack_of c.admits_by.ensures.rest) c.event_enabled.ensures)
      (subst (λ x. Notifies g.S.LookupSpan.registry g.S.Subscriber.has_form g.S.Subscriber.stepped c.args.lane
      (refusals c.event_enabled.new.pass) (OnEvent c.args.event.now) Stays x c.event.new.self) (ap stack_of c.admits_by.ensures.rest) c.event.ensures.hooks)
      h).0)
      (event_made_exactly g.met.S.Subscriber.laws g.met.S.LookupSpan.with_own g.S.Subscriber.reloaded f (kept_by c.args.self.now) (kept_by c.admits_by.new.self)
      (stack_of c.args.self.now) c.args.lane c.args.event.now c.metadata.result c.admits_by.new.pass c.metadata.ensures h c.event_enabled.new.pass
      c.event_enabled.result c.if-not-event_enabled.false (subst (λ x. AnswersEvent g.S.LookupSpan.registry g.S.Subscriber.has_form x c.args.lane
      c.args.event.now c.admits_by.new.pass c.event_enabled.result c.event_enabled.new.pass) (ap stack_of c.admits_by.ensures.rest) c.event_enabled.ensures)
      (subst (λ b. IsAdmitted (kept_by c.args.self.now) f (g.S.LookupSpan.registry (stack_of c.args.self.now))
      c.args.lane c.metadata.result c.admits_by.new.pass (kept_by c.admits_by.new.self) (Ok b))
      c.in-Ok-true.field-0-test (c.in-Ok-true.ensures.admitted f h u)));
  kept = of_same (λ m. RefusesMetadata m c.args.self.now)
      c.metadata.result (event_metadata c.args.event.now) false (Ok true) c.args.self.now (with_stack c.admits_by.new.self c.event.new.self) c.metadata.ensures
      (made_by false (RefusesMetadata c.metadata.result c.args.self.now) true c.event.new.self c.in-Ok-true.field-0-test c.in-Ok-true.ensures.kept);
  up_to_date = c.admits_by.ensures.up_to_date;
  asked = event_wanted g.S.LookupSpan.registry g.S.Subscriber.has_form c.args.lane (stack_of c.args.self.now) (kept_by c.args.self.now)
      (λ f. KeepsUpToDate f (g.S.LookupSpan.registry (stack_of c.args.self.now)).filters c.args.self.now) c.args.event.now
      c.metadata.result c.admits_by.new.pass c.event_enabled.new.pass _ c.event_enabled.result c.metadata.ensures
      c.in-Ok-true.field-0-test c.if-not-event_enabled.false c.in-Ok-true.ensures.decided
      (subst (λ x. AnswersEvent g.S.LookupSpan.registry g.S.Subscriber.has_form x c.args.lane
      c.args.event.now c.admits_by.new.pass c.event_enabled.result c.event_enabled.new.pass) (ap stack_of c.admits_by.ensures.rest) c.event_enabled.ensures);
  store = and_hooks
      (subst (λ x. Notifies g.S.LookupSpan.registry g.S.Subscriber.has_form g.S.Subscriber.stepped c.args.lane
      (refusals c.event_enabled.new.pass) (OnEvent c.args.event.now) Stays x c.event.new.self) (ap stack_of c.admits_by.ensures.rest) c.event.ensures.hooks);
  dropped = λ i. absurd (cc);
  unchanged = tt;
}
