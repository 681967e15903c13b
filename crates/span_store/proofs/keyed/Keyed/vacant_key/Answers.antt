use Rattle.span_store.proofs.Linked.{next_is_vacant}
use Rattle.span_store.proofs.keyed.Keyed.vacant_key.Goals as goal

pub returns-clause-vacant : goal.returns-clause-vacant
returns-clause-vacant g c = rw (← c.self.view_is) (next_is_vacant _ _ _ c.self.invariant)
