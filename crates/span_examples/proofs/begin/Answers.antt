use Rattle.span_registry.proofs.CallerLemmas.{settled_entered, settled_opened, settled_same}
use Rattle.span_examples.proofs.begin.Goals as goal

pub returns-in_err-id-clause-settled : goal.returns-in_err-id-clause-settled
returns-in_err-id-clause-settled c = settled_same c.in_err-id.ensures.unchanged c.requires

pub drop_span-requires : goal.drop_span-requires
drop_span-requires c = settled_same c.in-Err.ensures.unchanged (settled_opened _ _ _ _ _ c.in_ok-id.ensures.opened c.requires)

pub returns-clause-settled : goal.returns-clause-settled
returns-clause-settled c = settled_entered _ _ _ _ c.in_default.ensures.entered (settled_opened _ _ _ _ _ c.in_ok-id.ensures.opened c.requires)
