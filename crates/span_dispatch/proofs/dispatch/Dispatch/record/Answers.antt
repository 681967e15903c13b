use Rattle.span_dispatch.proofs.Ready.{stays_ready, unchanged_ready}
use Rattle.span_dispatch.specs.Serve.{with_stack}
use Rattle.span_dispatch.proofs.Stores.{found_store}
use Rattle.span_store.specs.Store.{IsOpen, RegistryState}
use Rattle.std.proofs.Common.{[], refl, subst, sym, ◌∙◌, rules}
use Rattle.std.proofs.lemmas.Bool.{true≢false}
use Rattle.span_core.specs.Span.{number_of}
use Rattle.span_registry.proofs.CallerLemmas.{and_hooks}
use Rattle.span_dispatch.proofs.Calls.{recorded_so}
use Rattle.span_dispatch.proofs.dispatch.Dispatch.record.Goals as goal

pub returns-clause-ready : goal.returns-clause-ready
returns-clause-ready g c = stays_ready c.args.self.now (with_stack c.args.self.now c.record.new.self) (λ f k u.
    (recorded_so g.met.S.Subscriber.laws g.met.S.LookupSpan.with_own g.S.Subscriber.reloaded c.args.lane c.args.id c.args.values.now f c.args.self.now.stack
    c.record.new.self (subst (λ (s : RegistryState). IsOpen s.store.spans (number_of c.args.id)) c.root.ensures (c.is_open.ensures.0 c.if-not-is_open.false))
    c.record.ensures.hooks k.honest).1 k.settled) (λ f h u. u)

pub returns-then-not-is_open-clause-ready : goal.returns-then-not-is_open-clause-ready
returns-then-not-is_open-clause-ready g c = unchanged_ready c.args.self.now c.args.self.now refl

pub returns-then-not-is_open-clause-records : goal.returns-then-not-is_open-clause-records
returns-then-not-is_open-clause-records g c = record {
  rest = search rules;
  served = λ f h u. (
    [],
    record {
      says = refl;
      goes = refl;
      answers = (
        refl,
        (
          refl,
          (λ o. true≢false (sym (c.is_open.ensures.1 (subst (λ (s : RegistryState). IsOpen s.store.spans (number_of c.args.id)) (sym c.root.ensures) o))
              ∙ c.if-not-is_open.true)),
        ),
      );
    },
  );
  store = search rules;
  refused = (
    refl,
    (λ o. true≢false (sym (c.is_open.ensures.1 (subst (λ (s : RegistryState). IsOpen s.store.spans (number_of c.args.id)) (sym c.root.ensures) o))
        ∙ c.if-not-is_open.true)),
  );
  unchanged = search rules;
}

pub returns-clause-records : goal.returns-clause-records
returns-clause-records g c = record {
  rest = search rules;
  served = λ f h u. let told =
      (recorded_so g.met.S.Subscriber.laws g.met.S.LookupSpan.with_own g.S.Subscriber.reloaded c.args.lane c.args.id c.args.values.now f c.args.self.now.stack
      c.record.new.self (subst (λ (s : RegistryState). IsOpen s.store.spans (number_of c.args.id)) c.root.ensures (c.is_open.ensures.0 c.if-not-is_open.false))
      c.record.ensures.hooks h).0 in (told.0, record { says = told.1.says; goes = told.1.goes; answers = (refl, tt) });
  store = found_store g.S.LookupSpan.registry c.args.id c.args.self.now.stack
      c.record.new.self (subst (λ (s : RegistryState). IsOpen s.store.spans (number_of c.args.id)) c.root.ensures (c.is_open.ensures.0 c.if-not-is_open.false))
      (and_hooks c.record.ensures.hooks);
  refused = search rules;
  unchanged = search rules;
}
