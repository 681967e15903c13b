use Rattle.span_registry.proofs.CallerLemmas.{settled_exited}
use Rattle.span_examples.proofs.finish.Goals as goal

pub drop_span-requires : goal.drop_span-requires
drop_span-requires c = settled_exited _ _ _ _ c.exit.ensures c.requires
