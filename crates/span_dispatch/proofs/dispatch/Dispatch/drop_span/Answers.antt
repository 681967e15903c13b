use Rattle.span_dispatch.proofs.Ready.{same_ready, stays_ready}
use Rattle.span_dispatch.specs.Serve.{with_stack}
use Rattle.span_dispatch.proofs.Stores.{closed_taken, still_open_taken}
use Rattle.span_dispatch.proofs.Stores.{closed_store, still_open_store}
use Rattle.std.proofs.Common.{[], ap, refl, subst, sym, ◌∙◌, rules}
use Rattle.span_core.specs.Span.{number_of}
use Rattle.span_store.specs.Closes.{HasNoClosing}
use Rattle.span_store.specs.Step.{RefusesRelease, Releases}
use Rattle.span_store.specs.Store.{IsClosing, IsForest, RegistryState}
use Rattle.span_registry.proofs.CallerLemmas.{closing_now}
use Rattle.span_dispatch.proofs.Calls.{closed_so, still_open_so}
use Rattle.span_dispatch.proofs.dispatch.Dispatch.drop_span.Goals as goal

pub close_all-requires-clause-closing : goal.close_all-requires-clause-closing
close_all-requires-clause-closing g c = subst (λ (s : RegistryState). IsClosing s.store.spans (number_of c.args.id))
    (sym (g.met.S.LookupSpan.registry_with c.args.self.now.stack c.release.new.self)) (closing_now c.in-Ok-Closing.ensures.released c.in-Ok-Closing.field-0-is)

pub returns-in-Ok-StillOpen-clause-ready : goal.returns-in-Ok-StillOpen-clause-ready
returns-in-Ok-StillOpen-clause-ready g c =
    stays_ready c.args.self.now (with_stack c.args.self.now (g.S.LookupSpan.with_registry c.args.self.now.stack c.release.new.self))
    (λ f k u. (still_open_so g.met.S.Subscriber.laws g.met.S.LookupSpan.with_own g.S.Subscriber.reloaded
    g.met.S.LookupSpan.registry_with c.args.lane c.args.id c.in-Ok-StillOpen.field-0 f c.args.self.now.stack c.release.new.self (subst (λ (s : RegistryState).
    Releases c.args.id c.in-Ok-StillOpen.field-0 s c.release.new.self) c.root_mut.ensures.value c.in-Ok-StillOpen.ensures.released) c.in-Ok-StillOpen.field-0-is
    (subst (λ (s : RegistryState). IsForest s.store.spans) c.root_mut.ensures.value c.in-Ok-StillOpen.ensures.forest) k).1 k.settled) (λ f h u. u)

pub returns-in-Ok-Closing-clause-ready : goal.returns-in-Ok-Closing-clause-ready
returns-in-Ok-Closing-clause-ready g c = stays_ready c.args.self.now
    (with_stack c.args.self.now c.close_all.new.stack) (λ f k u. (closed_so g.met.S.Subscriber.laws g.met.S.LookupSpan.with_own g.S.Subscriber.reloaded
    g.met.S.LookupSpan.registry_with c.args.lane c.args.id c.in-Ok-Closing.field-0 f c.args.self.now.stack c.close_all.new.stack c.release.new.self
    (subst (λ (s : RegistryState). Releases c.args.id c.in-Ok-Closing.field-0 s c.release.new.self) c.root_mut.ensures.value c.in-Ok-Closing.ensures.released)
    c.in-Ok-Closing.field-0-is (subst (λ (s : RegistryState). IsForest s.store.spans) c.root_mut.ensures.value c.in-Ok-Closing.ensures.forest)
    c.close_all.ensures.closes k).1 k.settled) (λ f h u. u)

pub returns-in-Err-clause-ready : goal.returns-in-Err-clause-ready
returns-in-Err-clause-ready g c =
    same_ready c.args.self.now (with_stack c.args.self.now (g.S.LookupSpan.with_registry c.args.self.now.stack c.release.new.self))
    (ap (λ w. g.S.LookupSpan.with_registry c.args.self.now.stack w) (c.in-Err.ensures.unchanged ∙ c.root_mut.ensures.value)
    ∙ g.met.S.LookupSpan.with_own c.args.self.now.stack) (λ f h u. u)

pub returns-in-Err-clause-drops : goal.returns-in-Err-clause-drops
returns-in-Err-clause-drops g c = record {
  rest = search rules;
  served = λ settled.
      let refused = subst (λ (s : RegistryState). RefusesRelease s c.args.id c.in-Err.error) c.root_mut.ensures.value c.in-Err.ensures.refused in
      let same = ap (λ w. g.S.LookupSpan.with_registry c.args.self.now.stack w) (c.in-Err.ensures.unchanged ∙ c.root_mut.ensures.value)
      ∙ g.met.S.LookupSpan.with_own c.args.self.now.stack in
      λ f h u. ([], record { says = refl; goes = sym same; answers = (refl, refused) });
  taken = search rules;
  store = search rules;
  settled = λ h.
      subst (λ (s : RegistryState). HasNoClosing s.store.spans)
      (sym (g.met.S.LookupSpan.registry_with c.args.self.now.stack c.release.new.self ∙ c.in-Err.ensures.unchanged ∙ c.root_mut.ensures.value)) h;
  refused = subst (λ (s : RegistryState). RefusesRelease s c.args.id c.in-Err.error) c.root_mut.ensures.value c.in-Err.ensures.refused;
  unchanged = search rules;
}

pub returns-in-Ok-StillOpen-clause-drops : goal.returns-in-Ok-StillOpen-clause-drops
returns-in-Ok-StillOpen-clause-drops g c = record {
  rest = search rules;
  served = λ settled. λ f h u. let told = (still_open_so g.met.S.Subscriber.laws g.met.S.LookupSpan.with_own
      g.S.Subscriber.reloaded g.met.S.LookupSpan.registry_with c.args.lane c.args.id c.in-Ok-StillOpen.field-0 f c.args.self.now.stack c.release.new.self (subst
      (λ (s : RegistryState). Releases c.args.id c.in-Ok-StillOpen.field-0 s c.release.new.self) c.root_mut.ensures.value c.in-Ok-StillOpen.ensures.released)
      c.in-Ok-StillOpen.field-0-is (subst (λ (s : RegistryState). IsForest s.store.spans) c.root_mut.ensures.value c.in-Ok-StillOpen.ensures.forest) (record {
        honest = h;
        settled = settled;
      })).0 in (told.0, record { says = told.1.says; goes = told.1.goes; answers = (refl, tt) });
  taken = still_open_taken g.S.LookupSpan.registry g.S.LookupSpan.with_registry g.met.S.LookupSpan.registry_with
      c.args.id c.in-Ok-StillOpen.field-0 c.args.self.now (with_stack c.args.self.now (g.S.LookupSpan.with_registry c.args.self.now.stack c.release.new.self))
      c.release.new.self refl (subst (λ (s : RegistryState). Releases c.args.id c.in-Ok-StillOpen.field-0 s c.release.new.self)
      c.root_mut.ensures.value c.in-Ok-StillOpen.ensures.released) c.in-Ok-StillOpen.field-0-is;
  store = λ h. (still_open_store g.S.LookupSpan.registry g.S.LookupSpan.with_registry g.met.S.LookupSpan.registry_with c.args.id c.in-Ok-StillOpen.field-0
      c.args.self.now.stack c.release.new.self (subst (λ (s : RegistryState). Releases c.args.id c.in-Ok-StillOpen.field-0 s c.release.new.self)
      c.root_mut.ensures.value c.in-Ok-StillOpen.ensures.released)
      c.in-Ok-StillOpen.field-0-is (subst (λ (s : RegistryState). IsForest s.store.spans) c.root_mut.ensures.value c.in-Ok-StillOpen.ensures.forest) h).0;
  settled = λ h. (still_open_store g.S.LookupSpan.registry g.S.LookupSpan.with_registry g.met.S.LookupSpan.registry_with c.args.id c.in-Ok-StillOpen.field-0
      c.args.self.now.stack c.release.new.self (subst (λ (s : RegistryState). Releases c.args.id c.in-Ok-StillOpen.field-0 s c.release.new.self)
      c.root_mut.ensures.value c.in-Ok-StillOpen.ensures.released)
      c.in-Ok-StillOpen.field-0-is (subst (λ (s : RegistryState). IsForest s.store.spans) c.root_mut.ensures.value c.in-Ok-StillOpen.ensures.forest) h).1;
  refused = search rules;
  unchanged = search rules;
}

pub returns-in-Ok-Closing-clause-drops : goal.returns-in-Ok-Closing-clause-drops
returns-in-Ok-Closing-clause-drops g c = record {
  rest = search rules;
  served =
      λ settled. λ f h u. let told = (closed_so g.met.S.Subscriber.laws g.met.S.LookupSpan.with_own g.S.Subscriber.reloaded g.met.S.LookupSpan.registry_with
      c.args.lane c.args.id c.in-Ok-Closing.field-0 f c.args.self.now.stack c.close_all.new.stack c.release.new.self (subst (λ (s : RegistryState).
      Releases c.args.id c.in-Ok-Closing.field-0 s c.release.new.self) c.root_mut.ensures.value c.in-Ok-Closing.ensures.released) c.in-Ok-Closing.field-0-is
      (subst (λ (s : RegistryState). IsForest s.store.spans) c.root_mut.ensures.value c.in-Ok-Closing.ensures.forest) c.close_all.ensures.closes (record {
        honest = h;
        settled = settled;
      })).0 in (told.0, record { says = told.1.says; goes = told.1.goes; answers = (refl, tt) });
  taken = closed_taken g.S.LookupSpan.registry g.S.LookupSpan.with_registry g.S.Subscriber.has_form g.S.Subscriber.stepped g.S.Subscriber.reloaded
      g.met.S.LookupSpan.registry_with c.args.lane c.args.id c.in-Ok-Closing.field-0 c.args.self.now (with_stack c.args.self.now c.close_all.new.stack)
      c.release.new.self (subst (λ (s : RegistryState). Releases c.args.id c.in-Ok-Closing.field-0 s c.release.new.self)
      c.root_mut.ensures.value c.in-Ok-Closing.ensures.released) c.in-Ok-Closing.field-0-is c.close_all.ensures.closes;
  store = λ h. (closed_store g.S.LookupSpan.registry g.S.LookupSpan.with_registry g.S.Subscriber.has_form g.S.Subscriber.stepped g.S.Subscriber.reloaded
      g.met.S.LookupSpan.registry_with c.args.lane c.args.id c.in-Ok-Closing.field-0 c.args.self.now.stack c.close_all.new.stack c.release.new.self
      (subst (λ (s : RegistryState). Releases c.args.id c.in-Ok-Closing.field-0 s c.release.new.self) c.root_mut.ensures.value c.in-Ok-Closing.ensures.released)
      c.in-Ok-Closing.field-0-is
      (subst (λ (s : RegistryState). IsForest s.store.spans) c.root_mut.ensures.value c.in-Ok-Closing.ensures.forest) c.close_all.ensures.closes h).0;
  settled = λ h. (closed_store g.S.LookupSpan.registry g.S.LookupSpan.with_registry g.S.Subscriber.has_form g.S.Subscriber.stepped g.S.Subscriber.reloaded
      g.met.S.LookupSpan.registry_with c.args.lane c.args.id c.in-Ok-Closing.field-0 c.args.self.now.stack c.close_all.new.stack c.release.new.self
      (subst (λ (s : RegistryState). Releases c.args.id c.in-Ok-Closing.field-0 s c.release.new.self) c.root_mut.ensures.value c.in-Ok-Closing.ensures.released)
      c.in-Ok-Closing.field-0-is
      (subst (λ (s : RegistryState). IsForest s.store.spans) c.root_mut.ensures.value c.in-Ok-Closing.ensures.forest) c.close_all.ensures.closes h).1;
  refused = search rules;
  unchanged = search rules;
}
