use Rattle.span_filters.specs.laws.Closure.{test_plain}
use Rattle.span_filters.proofs.laws.tests_are_plain.Goals as goal

pub returns : goal.returns
returns g c = λ a h. test_plain _ _ a h
