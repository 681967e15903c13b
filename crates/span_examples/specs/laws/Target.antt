-- A filter by targets goes by what metadata show.
use Rattle.std.specs.Prelude.{bytes_eq}
use Rattle.std.proofs.Common.{ap}
use Rattle.std.specs.List.{list_any}
use Rattle.span_examples.specs.Filters.{wanted_by, wants_target}
use Rattle.span_examples.specs.declared.filter.Wanted.{Wanted}
use Rattle.span_filters.specs.Closure.{GoesByWhatShows}

-- whether a target is wanted goes by what metadata show
pub goes_by_target : (f : Wanted) → GoesByWhatShows (wants_target f)
goes_by_target f m k e = ap (λ target. list_any (λ t. bytes_eq t.now target) (wanted_by f)) e.target
