use Rattle.std.proofs.Common.{Err, Ok, false, refl, rules, true}
use Rattle.span_macros.proofs.example.open_job.Goals as goal

pub returns-in-Ok-true-clause-opened : goal.returns-in-Ok-true-clause-opened
returns-in-Ok-true-clause-opened g c = record {
  metadata = c.numbered_metadata-metadata.result;
  shown = search rules;
  wanted = Ok true;
  between = c.enabled.new.self;
  probed = rw c.in-Ok-true.field-0-test at c.in-Ok-true.ensures.probes;
  goes = (c.span_in.result, search rules, c.new_span.ensures.opens);
}

pub returns-in-Ok-false-clause-opened : goal.returns-in-Ok-false-clause-opened
returns-in-Ok-false-clause-opened g c = record {
  metadata = c.numbered_metadata-metadata.result;
  shown = search rules;
  wanted = Ok false;
  between = c.enabled.new.self;
  probed = rw c.in-Ok-false.field-0-test at c.in-Ok-false.ensures.probes;
  goes = (refl, refl);
}

pub returns-in-Err-clause-opened : goal.returns-in-Err-clause-opened
returns-in-Err-clause-opened g c = record {
  metadata = c.numbered_metadata-metadata.result;
  shown = search rules;
  wanted = Err c.in-Err.error;
  between = c.enabled.new.self;
  probed = c.in-Err.ensures.probes;
  goes = (refl, refl);
}
