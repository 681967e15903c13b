use Rattle.span_macros.proofs.Behind.{spans_behind, spans_unwanted}
use Rattle.span_macros.proofs.laws.probes_add_nothing_to_spans.Goals as goal

pub returns : goal.returns
returns g c = record {
  behind = λ lane attrs given old between new probed made. spans_behind _ lane attrs given old between new probed made;
  unwanted = λ lane attrs wanted old new probed not_yes. spans_unwanted _ lane attrs wanted old new probed not_yes;
}
