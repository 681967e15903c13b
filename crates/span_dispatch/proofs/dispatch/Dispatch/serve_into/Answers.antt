use Rattle.std.proofs.Common.{refl, ◌+◌, ap, arith, sym, subst, take, [], ◌∙◌, rules}
use Rattle.std.proofs.lemmas.List.{take_all, take_more}
use Rattle.span_dispatch.proofs.Asked.{one_asked}
use Rattle.span_store.specs.Store.{AreIssued, RegistryState}
use Rattle.span_dispatch.proofs.Served.{SoFar, all_served, nothing_yet, one_more}
use Rattle.span_dispatch.proofs.dispatch.Dispatch.serve_into.Goals as goal
use Rattle.span_dispatch.specs.Contract.{AsksEach, AsksFor, SubscriberOf}
use Rattle.span_dispatch.specs.Serve.{call_of}
use Rattle.span_dispatch.specs.private.Step.{ServesNext}

pub loop-request-init : goal.loop-request-init
loop-request-init g c =
    let e = c.clear.ensures in
    record {
      usable = c.requires.usable;
      served = subst (SoFar (record {
        registry = g.S.LookupSpan.registry;
        with_registry = g.S.LookupSpan.with_registry;
        usable = g.S.Subscriber.usable;
        has_form = g.S.Subscriber.has_form;
        stepped = g.S.Subscriber.stepped;
        hears = g.S.Subscriber.hears;
        acts_at = g.S.Subscriber.acts_at;
        reloaded = g.S.Subscriber.reloaded;
        registered = g.S.Subscriber.registered;
      }) c.args.self.now c.args.self.now []) (sym e.items) (nothing_yet (record {
        registry = g.S.LookupSpan.registry;
        with_registry = g.S.LookupSpan.with_registry;
        usable = g.S.Subscriber.usable;
        has_form = g.S.Subscriber.has_form;
        stepped = g.S.Subscriber.stepped;
        hears = g.S.Subscriber.hears;
        acts_at = g.S.Subscriber.acts_at;
        reloaded = g.S.Subscriber.reloaded;
        registered = g.S.Subscriber.registered;
      }) c.args.self.now);
      asks = subst (λ us. AsksEach (record {
        registry = g.S.LookupSpan.registry;
        with_registry = g.S.LookupSpan.with_registry;
        usable = g.S.Subscriber.usable;
        has_form = g.S.Subscriber.has_form;
        stepped = g.S.Subscriber.stepped;
        hears = g.S.Subscriber.hears;
        acts_at = g.S.Subscriber.acts_at;
        reloaded = g.S.Subscriber.reloaded;
        registered = g.S.Subscriber.registered;
      }) [] [] us c.args.self.now c.args.self.now) (sym e.items) refl;
      registered = λ r h. h;
      len = search rules;
      room = search rules;
      capacity = search rules;
    }

pub serve_one-answer-requires : goal.serve_one-answer-requires
serve_one-answer-requires g c = c.loop-request.invariant.usable

pub append-requires : goal.append-requires
append-requires g c = omega (arith, c.loop-request.invariant.len, c.loop-request.invariant.room, c.loop-request-test.true)

pub loop-request-preserved : goal.loop-request-preserved
loop-request-preserved g c =
    let h = c.loop-request.invariant in
    let now = c.loop-request.self in
    let next = c.serve_one-answer.new.self in
    let a = c.serve_one-answer.result in
    let xs = c.args.requests.now in
    let i = c.loop-request.request-index in
    let r = c.request-item.result in
    let past = c.deref.result.now in
    let s : SubscriberOf g.row.S.Denot =
    record {
      registry = g.S.LookupSpan.registry;
      with_registry = g.S.LookupSpan.with_registry;
      usable = g.S.Subscriber.usable;
      has_form = g.S.Subscriber.has_form;
      stepped = g.S.Subscriber.stepped;
      hears = g.S.Subscriber.hears;
      acts_at = g.S.Subscriber.acts_at;
      reloaded = g.S.Subscriber.reloaded;
      registered = g.S.Subscriber.registered;
    } in
    record {
      usable = c.serve_one-answer.ensures.usable;
      served =
          one_more s c.args.self.now now
          next (take i xs) (take (i + 1) xs) _ c.loop-request.answers.items c.append.new.answers.items a _ h.served c.deref.ensures.value c.append.ensures.items
          (take_more xs i r c.loop-request-test.true) c.serve_one-answer.ensures.ready
          (subst (λ q. ServesNext s past q a now next) c.request-item.is c.serve_one-answer.ensures.served);
      asks = one_asked s c.args.self.now now next (take i xs) (take (i + 1) xs) _ c.loop-request.answers.items c.append.new.answers.items
          a _ h.asks c.deref.ensures.value c.append.ensures.items (take_more xs i r c.loop-request-test.true)
          (subst (λ q. AsksFor s (call_of past q) a now next) c.request-item.is c.serve_one-answer.ensures.asks);
      registered = λ r known. c.serve_one-answer.ensures.registered r (h.registered r known);
      len = c.append.ensures.len ∙ ap (λ n. n + 1) h.len;
      room = omega (arith, h.room, c.append.ensures.capacity);
      capacity = omega (arith, h.capacity, c.append.ensures.capacity);
    }

pub returns-clause-usable : goal.returns-clause-usable
returns-clause-usable g c = c.loop-request.invariant.usable

pub returns-clause-ready : goal.returns-clause-ready
returns-clause-ready g c = record { again = λ f ready. (c.loop-request.invariant.served f ready).ready }

pub returns-clause-served : goal.returns-clause-served
returns-clause-served g c = λ ready.
    all_served (record {
      registry = g.S.LookupSpan.registry;
      with_registry = g.S.LookupSpan.with_registry;
      usable = g.S.Subscriber.usable;
      has_form = g.S.Subscriber.has_form;
      stepped = g.S.Subscriber.stepped;
      hears = g.S.Subscriber.hears;
      acts_at = g.S.Subscriber.acts_at;
      reloaded = g.S.Subscriber.reloaded;
      registered = g.S.Subscriber.registered;
    }) g.met.S.Subscriber.laws g.met.S.Subscriber.paths g.met.S.Subscriber.reloads
    ready.0 c.args.self.now c.loop-request.self c.args.requests.now (take c.loop-request.request-index c.args.requests.now) c.loop-request.answers.items
    (subst (λ x. AreIssued (g.S.LookupSpan.registry x).store)
    c.stack.ensures (subst (λ (s : RegistryState). AreIssued s.store) c.root.ensures c.a_registry_is_sound.ensures.issued))
    (take_all c.loop-request.request-index c.args.requests.now c.loop-request-test.false) (c.loop-request.invariant.served ready.0 ready.1)

pub returns-clause-asks : goal.returns-clause-asks
returns-clause-asks g c = record {
  registered = c.loop-request.invariant.registered;
  each =
      subst (λ rs. AsksEach (record {
        registry = g.S.LookupSpan.registry;
        with_registry = g.S.LookupSpan.with_registry;
        usable = g.S.Subscriber.usable;
        has_form = g.S.Subscriber.has_form;
        stepped = g.S.Subscriber.stepped;
        hears = g.S.Subscriber.hears;
        acts_at = g.S.Subscriber.acts_at;
        reloaded = g.S.Subscriber.reloaded;
        registered = g.S.Subscriber.registered;
      }) [] rs c.loop-request.answers.items c.args.self.now c.loop-request.self)
      (take_all c.loop-request.request-index c.args.requests.now c.loop-request-test.false) c.loop-request.invariant.asks;
}

pub returns-clause-room : goal.returns-clause-room
returns-clause-room g c = c.loop-request.invariant.capacity
