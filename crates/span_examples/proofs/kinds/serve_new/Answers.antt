use Rattle.std.proofs.Common.{ap, ◌∙◌}
use Rattle.span_store.specs.Store.{RegistryState}
use Rattle.span_examples.proofs.Standing.{is_ready}
use Rattle.span_examples.proofs.kinds.serve_new.Goals as goal

pub returns-clause-served : goal.returns-clause-served
returns-clause-served g c =
    let stands = c.requires.stands in
    let first = c.new-dispatch.ensures.ready stands.0 (is_ready stands.0 stands.1 c.args.stack stands.2) in
    let next = c.in_ok-answers.ensures.ready.again first.0 first.1 in
    record {
      first = c.new-dispatch.result;
      in_use = c.new-dispatch.ensures.registered;
      empty = ap (λ (t : RegistryState). t.store) c.new-dispatch.ensures.registry ∙ stands.2.empty;
      ready = (first.0, first.1);
      served = c.in_ok-answers.ensures.served (first.0, first.1);
      next = (next.0, next.1);
    }
