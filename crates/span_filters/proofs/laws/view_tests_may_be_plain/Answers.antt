use Rattle.span_filters.specs.laws.Closure.{view_plain}
use Rattle.span_filters.proofs.laws.view_tests_may_be_plain.Goals as goal

pub returns : goal.returns
returns g c = λ all a h p. view_plain _ _ _ _ a all h p
