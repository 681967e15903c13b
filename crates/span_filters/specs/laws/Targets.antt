-- What a filter by targets answers is honest.
use Rattle.std.proofs.Common.{◌<◌, Some, arith}
use Rattle.std.proofs.lemmas.Bool.{leb-false, lt-leb, not-true}
use Rattle.std.specs.Prelude.{nat_le}
use Rattle.span_core.specs.Level.{filter_number, level_number}
use Rattle.span_core.specs.Metadata.{level_of, target_of}
use Rattle.span_filters.specs.Closure.{GoesByWhatShows, RefusesAbove}
use Rattle.span_filters.specs.laws.Closure.{test_answers_honest}
use Rattle.span_registry.specs.Behaviour.{AreHonest}
use Rattle.span_filters.specs.Targets.{targets_answers}
use Rattle.span_targets.specs.laws.Below.{level_below}
use Rattle.span_targets.specs.Targets.{most_by, names_of, wants}
use Rattle.span_targets.specs.Names.{level_for}
use Rattle.span_targets.specs.declared.targets.Targets.{Targets}

goes_by_what_shows : (f : Targets) → GoesByWhatShows (wants f)
goes_by_what_shows f m k e =
    λ i. nat_le (level_number (e.level i)) (filter_number (level_for (names_of f) (e.target i)))

refuses_above : (f : Targets) → RefusesAbove (wants f) (Some (most_by f))
refuses_above f m e =
    let above : filter_number (most_by f) < level_number (level_of m) =
    leb-false _ _ (not-true _ e) in
    lt-leb _ _ (omega (arith, level_below f (target_of m)))

-- the answers are honest
pub targets_honest : (f : Targets) → AreHonest (targets_answers f)
targets_honest f =
    test_answers_honest (wants f) (Some (most_by f)) (goes_by_what_shows f) (refuses_above f)
