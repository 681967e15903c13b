use Rattle.span_macros.proofs.Behind.{events_behind, events_unwanted}
use Rattle.span_macros.proofs.laws.probes_add_nothing_to_events.Goals as goal

pub returns : goal.returns
returns g c = record {
  behind = λ lane e given old between new probed sent. events_behind _ lane e given old between new probed sent;
  unwanted = λ lane e wanted old new probed not_yes. events_unwanted _ lane e wanted old new probed not_yes;
}
