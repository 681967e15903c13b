use Rattle.span_dispatch.proofs.Ready.{unset_ready}
use Rattle.span_dispatch.proofs.Goes.{forgotten_current, forgotten_kept, reload_told, ready_reloaded}
use Rattle.span_dispatch.proofs.Registered.{registered_before}
use Rattle.span_dispatch.specs.Cache.{IsUpToDate, kept_in}
use Rattle.span_dispatch.specs.Serve.{with_stack}
use Rattle.span_dispatch.specs.declared.cache.Cache.{Cache}
use Rattle.span_registry.specs.laws.Form.{same_reloads}
use Rattle.std.proofs.Common.{[], ap, refl, subst, sym, ◌∙◌, rules}
use Rattle.span_dispatch.proofs.dispatch.Dispatch.reload.Goals as goal

pub returns-then-not-reload-clause-ready : goal.returns-then-not-reload-clause-ready
returns-then-not-reload-clause-ready g c = unset_ready c.args.number
    c.args.self.now (with_stack c.args.self.now c.reload.new.self) (ap (with_stack c.args.self.now) (c.reload.ensures.unchanged c.if-not-reload.true))

pub returns-clause-ready : goal.returns-clause-ready
returns-clause-ready g c = record {
  again = λ f k.
      ready_reloaded g.S.LookupSpan.registry g.S.LookupSpan.with_registry g.S.Subscriber.stepped g.met.S.Subscriber.reloads f c.args.number
      c.args.setting c.args.self.now (record c.args.self.now { stack = c.reload.new.self; cache = c.forget.new.self; epoch = c.next-self.result })
      k c.reload.ensures.reloaded c.reload.ensures.registry
      (λ h m. subst (λ (k : Cache). IsUpToDate h m k) (sym c.forget.ensures) (forgotten_current h m c.args.self.now.cache));
}

pub returns-clause-registered : goal.returns-clause-registered
returns-clause-registered g c = registered_before c.args.self.now
    (record c.args.self.now { stack = c.reload.new.self; cache = c.forget.new.self; epoch = c.next-self.result }) c.next-self.ensures

pub returns-then-not-reload-clause-sets : goal.returns-then-not-reload-clause-sets
returns-then-not-reload-clause-sets g c = record {
  registry = search rules;
  served = λ f h u. (
    [],
    record {
      says = refl;
      goes = sym (c.reload.ensures.unchanged c.if-not-reload.true);
      answers = (refl, (refl, sym (c.reload.ensures.taken f h.has) ∙ c.if-not-reload.true));
    },
  );
  reloaded = search rules;
  taken = search rules;
  none = λ f h. sym c.if-not-reload.true ∙ c.reload.ensures.taken f h;
  rest = λ f h.
      (f, subst (λ x. g.S.Subscriber.has_form x f) (sym (c.reload.ensures.unchanged c.if-not-reload.true)) h, same_reloads c.args.number f);
  forgets = search rules;
  refused = search rules;
  unchanged = ap (with_stack c.args.self.now) (c.reload.ensures.unchanged c.if-not-reload.true);
}

pub returns-clause-sets : goal.returns-clause-sets
returns-clause-sets g c = record {
  registry = search rules;
  served = λ f h u. let told = reload_told g.S.LookupSpan.registry
      g.S.LookupSpan.with_registry g.S.Subscriber.stepped g.met.S.Subscriber.reloads f c.args.number c.args.setting c.args.self.now.stack
      c.reload.new.self h (sym (c.reload.ensures.taken f h.has) ∙ c.if-not-reload.false) c.reload.ensures.reloaded c.reload.ensures.registry in (
        told.0,
        record {
          says = told.1.says;
          goes = told.1.goes;
          answers = (ap kept_in c.forget.ensures ∙ forgotten_kept c.args.self.now.cache, sym (c.reload.ensures.taken f h.has) ∙ c.if-not-reload.false);
        },
      );
  reloaded = search rules;
  taken = λ f h. sym c.if-not-reload.false ∙ c.reload.ensures.taken f h;
  none = search rules;
  rest = λ f h. g.met.S.Subscriber.reloads.keeps c.args.self.now.stack c.args.number c.args.setting c.reload.new.self f c.reload.ensures.reloaded h;
  forgets = λ i. record c.args.self.now { stack = c.reload.new.self; cache = c.forget.ensures i; epoch = c.next-self.ensures i };
  refused = search rules;
  unchanged = search rules;
}
