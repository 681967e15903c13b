use Rattle.std.proofs.Common.{ap, subst, string_bytes, ◌∙◌}
use Rattle.span_dispatch.specs.Contract.{SubscriberOf}
use Rattle.span_dispatch.specs.Serve.{stack_of}
use Rattle.span_script.proofs.Gives.{gives_shared}
use Rattle.span_script.specs.Printed.{IsPrinted}
use Rattle.span_script.specs.Stacks.{ServesInUse}
use Rattle.span_script.specs.Script.{lines_of, requests_of}
use Rattle.span_script.specs.declared.script.Script.{Script}
use Rattle.span_script.proofs.stacks.text_of_stack.Goals as goal

pub returns-clause-alone : goal.returns-clause-alone
returns-clause-alone g c =
    let stack : SubscriberOf g.row.S.Denot = record {
      registry = g.S.LookupSpan.registry;
      with_registry = g.S.LookupSpan.with_registry;
      usable = g.S.Subscriber.usable;
      has_form = g.S.Subscriber.has_form;
      stepped = g.S.Subscriber.stepped;
      hears = g.S.Subscriber.hears;
      acts_at = g.S.Subscriber.acts_at;
      reloaded = g.S.Subscriber.reloaded;
      registered = g.S.Subscriber.registered;
    } in
    let served = c.in_ok-answers in
    let dispatch = served.dispatch in
    let requests = c.requests.ensures ∙ ap (λ (s : Script). requests_of s) c.script-lent.ensures in
    let text = string_bytes c.in_ok-text.text in
    let sections = g.S.ScriptStack.sections in
    λ alone. record {
      given = (served.answers, dispatch);
      served = subst (λ rs. ServesInUse stack rs c.args.stack (served.answers, dispatch)) requests (served.ensures.alone alone);
      kept = subst g.S.ScriptStack.whole c.stack.ensures c.in_ok-text.ensures.whole;
      printed = subst (λ (s : Script). IsPrinted (lines_of s) served.answers.items (sections (stack_of dispatch)) text)
          c.script-lent.ensures (subst (λ xs. IsPrinted (lines_of c.script-lent.result.now) xs (sections (stack_of dispatch)) text)
          c.deref.ensures.value (subst (λ x. IsPrinted (lines_of c.script-lent.result.now) c.deref.result.now (sections x) text) c.stack.ensures
          c.in_ok-text.ensures.printed));
    }

pub returns-clause-shared : goal.returns-clause-shared
returns-clause-shared g c =
    let stack = c.stack.result.now in
    let script = g.A.Scripted.held c.args.scripted.now in
    let requests = c.requests.ensures ∙ ap (λ (s : Script). requests_of s) c.script-lent.ensures in
    let sections = g.S.ScriptStack.sections stack in
    gives_shared g.S.ScriptStack.name
    script c.requests.result.now c.in_ok-answers.answers.items c.deref.result.now sections (string_bytes c.in_ok-text.text)
    c.in_ok-answers.ensures.each requests c.deref.ensures.value (g.met.S.ScriptStack.named stack)
    (subst (λ (s : Script). IsPrinted (lines_of s) c.deref.result.now sections (string_bytes c.in_ok-text.text)) c.script-lent.ensures
    c.in_ok-text.ensures.printed)
