use Rattle.std.proofs.Common.{◌≡◌, ◌∙◌, ap, inr, rules, subst, sym}
use Rattle.span_core.specs.Span.{metadata_of}
use Rattle.span_dispatch.proofs.CallerLemmas.{registered_by_stack}
use Rattle.span_dispatch.specs.Admission.{learned_if}
use Rattle.span_dispatch.specs.Cache.{hint_in, is_above_read, kept_in}
use Rattle.span_dispatch.specs.Call.{OpensFor}
use Rattle.span_dispatch.specs.Registration.{IsRegistered}
use Rattle.span_dispatch.specs.Serve.{kept_by, stack_of}
use Rattle.span_macros.proofs.CallerLemmas.{ready_after}
use Rattle.span_macros.proofs.Opened.{closes, no_memory}
use Rattle.span_macros.proofs.Settled.{settled_new, settled_within}
use Rattle.span_macros.proofs.Steps.{on_stack}
use Rattle.span_store.specs.Store.{IsForest, RegistryState}
use Rattle.span_registry.specs.Subscriber.{AndHooks}
use Rattle.span_macros.proofs.span.open_and_enter.Goals as goal

pub returns-in_err-id-clause-settled : goal.returns-in_err-id-clause-settled
returns-in_err-id-clause-settled g c =
    settled_new g.S.LookupSpan.registry c.args.lane c.args.attrs.now _ _ c.new_span.result c.new_span.ensures.opens.store c.new_span.ensures.opens.unchanged

pub returns-in_default-clause-settled : goal.returns-in_default-clause-settled
returns-in_default-clause-settled g c =
    settled_new g.S.LookupSpan.registry c.args.lane c.args.attrs.now _ _ c.new_span.result c.new_span.ensures.opens.store c.new_span.ensures.opens.unchanged

pub returns-in-Err-clause-ready : goal.returns-in-Err-clause-ready
returns-in-Err-clause-ready g c =
    let entered = ready_after _ _ _ _ c.new_span.ensures.ready c.enter.ensures.ready in
    ready_after _ _ _ _ entered c.drop_span.ensures.ready

pub returns-in-Err-clause-settled : goal.returns-in-Err-clause-settled
returns-in-Err-clause-settled g c = λ h.
    let made = settled_new g.S.LookupSpan.registry
    c.args.lane c.args.attrs.now _ _ c.new_span.result c.new_span.ensures.opens.store c.new_span.ensures.opens.unchanged h in
    c.drop_span.ensures.drops.settled (settled_within g.S.LookupSpan.registry
    _ _ c.new_span.new.self c.enter.new.self c.enter.result c.enter.ensures.enters.store c.enter.ensures.enters.unchanged made)

pub returns-in-Err-clause-registered : goal.returns-in-Err-clause-registered
returns-in-Err-clause-registered g c = λ r h.
    let opened = subst (λ d. IsRegistered d r) (sym c.in-Err.ensures.enters.unchanged) (c.new_span.ensures.registered r h) in
    registered_by_stack _ _ c.drop_span.ensures.drops.rest r opened

pub returns-in-Err-clause-opens : goal.returns-in-Err-clause-opens
returns-in-Err-clause-opens g c =
    let registry = g.S.LookupSpan.registry in
    let old = stack_of c.args.dispatch.now in
    let between = stack_of c.enter.new.self in
    let sound = subst (λ (s : RegistryState). IsForest s.store.spans) (c.root.ensures ∙ ap registry c.stack.ensures) c.a_registry_is_sound.ensures.forest in
    let opened : AndHooks registry (OpensFor c.args.lane c.args.attrs.now c.in-Some.id) old between =
    rw c.in-Err.ensures.enters.unchanged (rw c.in-Some.is at c.in_ok-id.ensures.opens.store) in
    let closed = closes registry c.args.lane c.args.attrs.now c.in-Some.id
    old between opened c.parents_are_open.ensures sound _ _ (λ t. t.0) c.drop_span.result c.drop_span.ensures.drops.taken c.drop_span.ensures.drops.refused in
    let cache = ap (λ d. d.cache) c.drop_span.ensures.drops.rest ∙ ap (λ d. d.cache) c.in-Err.ensures.enters.unchanged in
    let seen = rw c.in-Some.is at c.in_ok-id.ensures.opens in
    record {
      kept = record {
        hint = rw cache seen.kept.hint;
        learned = rw cache seen.kept.learned;
        keeps = tt;
        above = λ h. let no : ⊥ = (let none = seen.kept.above (rw cache at h) in cc) in absurd no;
        mismatch = λ h. let no : ⊥ = (let refused = seen.kept.mismatch h in cc) in absurd no;
        refused = inr (record {
          id = c.in-Some.id;
          between = c.enter.new.self;
          error = no_memory registry c.args.lane c.args.attrs.now c.in-Some.id
              old (stack_of c.new_span.new.self) (rw c.in-Some.is at c.in_ok-id.ensures.opens.store) c.in-Err.error c.in-Err.ensures.enters.refused;
          opened = rw c.in-Err.ensures.enters.unchanged (rw c.in-Some.is at c.in_ok-id.ensures.opens.served);
          stored = opened;
          keeps = subst (λ k. kept_in k ≡ learned_if (is_above_read (hint_in k) (metadata_of c.args.attrs.now))
              (kept_by c.args.dispatch.now) (metadata_of c.args.attrs.now)) (sym cache) c.in_ok-id.ensures.opens.kept.keeps;
          dropped = rw closed at c.drop_span.ensures.drops.served;
          taken = rw closed at c.drop_span.ensures.drops.taken;
          rest = c.drop_span.ensures.drops.rest;
        });
      };
      up_to_date = search rules;
      asked = inr seen.asked;
      entered = tt;
    }

pub returns-clause-ready : goal.returns-clause-ready
returns-clause-ready g c = ready_after _ _ _ _ c.new_span.ensures.ready c.enter.ensures.ready

pub returns-clause-settled : goal.returns-clause-settled
returns-clause-settled g c = λ h.
    let made = settled_new g.S.LookupSpan.registry
    c.args.lane c.args.attrs.now _ _ c.new_span.result c.new_span.ensures.opens.store c.new_span.ensures.opens.unchanged h in
    settled_within g.S.LookupSpan.registry
    _ _ c.new_span.new.self c.enter.new.self c.enter.result c.enter.ensures.enters.store c.enter.ensures.enters.unchanged made

pub returns-clause-registered : goal.returns-clause-registered
returns-clause-registered g c = λ r h. registered_by_stack _ _ c.enter.ensures.enters.rest r (c.new_span.ensures.registered r h)

pub returns-clause-opens : goal.returns-clause-opens
returns-clause-opens g c =
    let made = c.in_ok-id.ensures.opens in
    record {
      kept = search rules;
      up_to_date = search rules;
      asked = search rules;
      entered = record {
        between = c.new_span.new.self;
        opened = rw c.in-Some.is at made.served;
        stored = rw c.in-Some.is at made.store;
        entered = search rules;
        stacked = search rules;
        rest = c.enter.ensures.enters.rest;
        step = on_stack g.S.LookupSpan.registry c.args.lane c.args.attrs.now c.in-Some.id
            (stack_of c.args.dispatch.now) (stack_of c.new_span.new.self) (stack_of c.enter.new.self) (rw c.in-Some.is at made.store) (search rules);
      };
    }
