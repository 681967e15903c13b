use Rattle.std.proofs.Common.{Err, Ok, false, refl, rules, true}
use Rattle.span_macros.proofs.example.fail.Goals as goal

pub returns-in-Ok-true-clause-sent : goal.returns-in-Ok-true-clause-sent
returns-in-Ok-true-clause-sent g c = record {
  metadata = c.numbered_metadata-metadata.result;
  shown = search rules;
  wanted = Ok true;
  between = c.enabled.new.self;
  probed = rw c.in-Ok-true.field-0-test at c.in-Ok-true.ensures.probes;
  goes = (c.event_in.result, search rules, c.event.ensures.sends);
}

pub returns-in-Ok-false-clause-sent : goal.returns-in-Ok-false-clause-sent
returns-in-Ok-false-clause-sent g c = record {
  metadata = c.numbered_metadata-metadata.result;
  shown = search rules;
  wanted = Ok false;
  between = c.enabled.new.self;
  probed = rw c.in-Ok-false.field-0-test at c.in-Ok-false.ensures.probes;
  goes = (refl, refl);
}

pub returns-in-Err-clause-sent : goal.returns-in-Err-clause-sent
returns-in-Err-clause-sent g c = record {
  metadata = c.numbered_metadata-metadata.result;
  shown = search rules;
  wanted = Err c.in-Err.error;
  between = c.enabled.new.self;
  probed = c.in-Err.ensures.probes;
  goes = (refl, refl);
}
