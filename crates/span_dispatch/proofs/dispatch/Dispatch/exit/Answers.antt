use Rattle.span_dispatch.proofs.Ready.{stays_ready}
use Rattle.span_dispatch.specs.Serve.{stack_of, with_stack}
use Rattle.span_dispatch.proofs.Stores.{alone, gone_store}
use Rattle.std.proofs.Common.{refl, subst, sym, ◌∙◌, rules}
use Rattle.std.proofs.lemmas.Bool.{true≢false}
use Rattle.span_core.specs.Span.{number_of}
use Rattle.span_store.specs.Step.{Exits}
use Rattle.span_store.specs.Store.{IsOpen, RegistryState}
use Rattle.span_dispatch.proofs.Calls.{gone_so, left_so}
use Rattle.span_dispatch.proofs.dispatch.Dispatch.exit.Goals as goal

pub returns-then-is_open-clause-ready : goal.returns-then-is_open-clause-ready
returns-then-is_open-clause-ready g c = stays_ready c.args.self.now (with_stack c.args.self.now c.exit.new.self)
    (λ f k u. (left_so g.met.S.Subscriber.laws g.met.S.LookupSpan.with_own g.S.Subscriber.reloaded c.args.lane c.args.id f c.args.self.now.stack
    c.exit.new.self (subst (λ (s : RegistryState). IsOpen s.store.spans (number_of c.args.id)) c.root.ensures (c.is_open.ensures.0 c.if-is_open.true))
    c.exit.ensures.hooks k.honest).1 k.settled) (λ f h u. u)

pub returns-clause-ready : goal.returns-clause-ready
returns-clause-ready g c = stays_ready c.args.self.now (with_stack c.args.self.now (g.S.LookupSpan.with_registry c.args.self.now.stack c.exit-2.new.self))
    (λ f k u. (gone_so g.met.S.Subscriber.laws g.met.S.LookupSpan.with_own
    g.S.Subscriber.reloaded g.met.S.LookupSpan.registry_with c.args.lane c.args.id f c.args.self.now.stack c.exit-2.new.self (λ o. true≢false
    (sym (c.is_open.ensures.1 (subst (λ (s : RegistryState). IsOpen s.store.spans (number_of c.args.id)) (sym c.root.ensures) o)) ∙ c.if-is_open.false)) (subst
    (λ (s : RegistryState). Exits c.args.lane c.args.id s c.exit-2.new.self) c.root_mut.ensures.value c.exit-2.ensures) k.honest).1 k.settled) (λ f h u. u)

pub returns-then-is_open-clause-exits : goal.returns-then-is_open-clause-exits
returns-then-is_open-clause-exits g c = record {
  rest = search rules;
  served =
      λ f h u. let told = (left_so g.met.S.Subscriber.laws g.met.S.LookupSpan.with_own g.S.Subscriber.reloaded c.args.lane c.args.id f c.args.self.now.stack
      c.exit.new.self (subst (λ (s : RegistryState). IsOpen s.store.spans (number_of c.args.id)) c.root.ensures (c.is_open.ensures.0 c.if-is_open.true))
      c.exit.ensures.hooks h).0 in (told.0, record { says = told.1.says; goes = told.1.goes; answers = (refl, tt) });
  store = search rules;
  gone =
      λ shut. absurd (shut (subst (λ (s : RegistryState). IsOpen s.store.spans (number_of c.args.id)) c.root.ensures (c.is_open.ensures.0 c.if-is_open.true)));
}

pub returns-clause-exits : goal.returns-clause-exits
returns-clause-exits g c = record {
  rest = search rules;
  served = λ f h u. let told = (gone_so g.met.S.Subscriber.laws
      g.met.S.LookupSpan.with_own g.S.Subscriber.reloaded g.met.S.LookupSpan.registry_with c.args.lane c.args.id f c.args.self.now.stack c.exit-2.new.self
      (λ o. true≢false (sym (c.is_open.ensures.1 (subst (λ (s : RegistryState). IsOpen s.store.spans (number_of c.args.id)) (sym c.root.ensures) o))
      ∙ c.if-is_open.false)) (subst (λ (s : RegistryState). Exits c.args.lane c.args.id s c.exit-2.new.self) c.root_mut.ensures.value c.exit-2.ensures) h).0 in
      (told.0, record { says = told.1.says; goes = told.1.goes; answers = (refl, tt) });
  store = gone_store g.S.LookupSpan.registry g.S.LookupSpan.with_registry g.met.S.LookupSpan.registry_with c.args.lane c.args.id c.args.self.now.stack
      c.exit-2.new.self (subst (λ (s : RegistryState). Exits c.args.lane c.args.id s c.exit-2.new.self) c.root_mut.ensures.value c.exit-2.ensures);
  gone = λ shut.
      alone g.S.LookupSpan.registry g.S.LookupSpan.with_registry g.met.S.LookupSpan.registry_with (Exits c.args.lane c.args.id) (stack_of c.args.self.now)
      c.exit-2.new.self (subst (λ (s : RegistryState). Exits c.args.lane c.args.id s c.exit-2.new.self) c.root_mut.ensures.value c.exit-2.ensures);
}
