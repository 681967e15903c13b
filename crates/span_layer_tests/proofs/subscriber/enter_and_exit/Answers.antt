use Rattle.span_registry.proofs.CallerLemmas.{and_hooks, same_itself, stacks_restored_after}
use Rattle.span_layer_tests.proofs.subscriber.enter_and_exit.Goals as goal

pub returns-clause-stacks : goal.returns-clause-stacks
returns-clause-stacks g c =
    let registry = g.S.LookupSpan.registry in
    let entered = c.enter.new.self in
    stacks_restored_after registry c.args.stack.now entered
    entered c.exit.new.self c.args.lane c.args.id (and_hooks c.in_ok-enter.ensures.entered) (same_itself (registry entered)) (and_hooks c.exit.ensures.hooks)
