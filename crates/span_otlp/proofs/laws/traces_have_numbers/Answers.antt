use Rattle.span_otlp.proofs.Seeds.{apart, not_zero}
use Rattle.span_otlp.proofs.laws.traces_have_numbers.Goals as goal

pub returns : goal.returns
returns c = record {
  one = λ ids some root above fits. some;
  seeded = λ ids root above fits. not_zero ids.0 root above fits;
  apart = apart;
}
