use Rattle.std.proofs.Common.{of_calls, refl, rules}
use Rattle.std.proofs.lemmas.Fn.{filter_same}
use Rattle.std.specs.Prelude.{not, ◌==◌}
use Rattle.span_core.specs.Span.{number_of}
use Rattle.span_fields.proofs.filter.FieldFilter.forget.Goals as goal
use Rattle.span_fields.specs.Filter.{span_of}

pub returns : goal.returns
returns c = record {
  directives = refl;
  failed = refl;
  within = filter_same _ (λ e. not (span_of e == number_of c.args.span)) _ (λ x b q k. search (rules, of_calls)) _ _ c.retain.ensures.filtered;
}
