use Rattle.span_core.specs.declared.level.TheConstants.LevelFilter.{DEBUG, WARN}
use Rattle.span_registry.specs.Reload.{KeepsRules, ReloadedForm}
use Rattle.span_registry.specs.laws.Form.{reload_rules}
use Rattle.span_examples.proofs.Recorded.{has_room_at_first, in_use, starts, starts_first}
use Rattle.span_examples.proofs.Settable.{is_set, never_refused, ready_first, ready_still}
use Rattle.span_examples.proofs.reload.reload.Goals as goal

pub returns-in-Err-clause-memory : goal.returns-in-Err-clause-memory
returns-in-Err-clause-memory c = absurd (has_room_at_first _ _ _ _ _ c.new-2.ensures c.with_filter-layer.ensures c.in-Err.ensures.refused.full)

pub returns-in_err-reload-clause-memory : goal.returns-in_err-reload-clause-memory
returns-in_err-reload-clause-memory c =
    let a = c.in-Ok.ensures.attached in
    let ready =
    starts_first c.numbers_are_own.ensures WARN _ _ _ _ _ c.new-2.ensures c.new.ensures c.with_filter-layer.ensures a.numbers a.room a.layer_as_it_was in
    let first = ready_still KeepsRules (λ f g h. h) _ _ (ready_first _ _ _ ready c.new-dispatch.ensures.ready) c.in_ok-serve.ensures.ready.again in
    absurd (never_refused c.serve.new.self DEBUG first c.in_err-reload.ensures.sets.none)

pub returns-clause-reloads : goal.returns-clause-reloads
returns-clause-reloads c =
    let a = c.in-Ok.ensures.attached in
    let new = starts c.numbers_are_own.ensures WARN _ _ _ _ _ c.new-2.ensures c.new.ensures c.with_filter-layer.ensures a.numbers a.room a.layer_as_it_was in
    let ready =
    starts_first c.numbers_are_own.ensures WARN _ _ _ _ _ c.new-2.ensures c.new.ensures c.with_filter-layer.ensures a.numbers a.room a.layer_as_it_was in
    let start = ready_first _ _ _ ready c.new-dispatch.ensures.ready in
    let used = in_use _ _ _ new (λ k. let r = c.new-dispatch.ensures.ready k.0 k.1 in (r.0, r.1.stack)) c.new-dispatch.ensures.registered.0 in
    let before = ready_still KeepsRules (λ f g h. h) _ _ start c.in_ok-serve.ensures.ready.again in
    let after = ready_still (ReloadedForm 0) (reload_rules 0) _ _ before c.in_ok-reload.ensures.ready.again in
    let first = c.in_ok-serve.ensures.served (start.form, start.ready) in
    let rest = c.in_ok-serve-2.ensures.served (after.form, after.ready) in
    record {
      start = c.new-dispatch.result;
      before = c.serve.new.self;
      after = c.reload.new.self;
      recorder = record { own = used.under.own; inner = used.empty };
      first = (c.in_ok-serve.field-0.items, first);
      set = is_set _ _ DEBUG before c.in_ok-reload.ensures.sets.reloaded;
      rest = (c.in_ok-serve-2.field-0.items, rest);
    }
