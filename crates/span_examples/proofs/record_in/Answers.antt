use Rattle.span_registry.proofs.CallerLemmas.{and_hooks, hooks_alone, stacks_restored_after}
use Rattle.span_examples.proofs.record_in.Goals as goal

pub returns-clause-stacks : goal.returns-clause-stacks
returns-clause-stacks g c = stacks_restored_after g.S.LookupSpan.registry
    _ _ _ _ _ _ (and_hooks c.in_ok-enter.ensures.entered) (hooks_alone c.record.ensures.hooks) (and_hooks c.exit.ensures.hooks)
