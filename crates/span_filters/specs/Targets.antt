-- What a filter by targets answers.
use Rattle.std.specs.Prelude.{Some}
use Rattle.span_filters.specs.Closure.{test_answers}
use Rattle.span_registry.specs.Behaviour.{Behaviour}
use Rattle.span_targets.specs.Targets.{most_by, wants}
use Rattle.span_targets.specs.declared.targets.Targets.{Targets}

-- whether metadata pass, with an interest that is settled, and the most that passes at any target
-- as the hint
abbrev pub targets_answers : Targets → Behaviour
targets_answers f = test_answers (wants f) (Some (most_by f))
