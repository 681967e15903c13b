use Rattle.span_core.proofs.FilterLemmas.{ids_below, maps_below, same_ids, same_maps}
use Rattle.span_core.proofs.laws.members.Goals as goal

pub returns-clause-ids_below : goal.returns-clause-ids_below
returns-clause-ids_below c = ids_below

pub returns-clause-maps_below : goal.returns-clause-maps_below
returns-clause-maps_below c = maps_below

pub returns-clause-ids : goal.returns-clause-ids
returns-clause-ids c = same_ids

pub returns-clause-maps : goal.returns-clause-maps
returns-clause-maps c = same_maps
