-- What a pass shows.
use Rattle.std.specs.Prelude.{Option}
use Rattle.span_core.specs.declared.filter.FilterMap.{FilterMap}
use Rattle.span_core.specs.declared.interest.Interest.{Interest}
use Rattle.span_core.specs.declared.pass.Pass.{Pass}

-- the filters that refused
abbrev pub refused_of : Pass → FilterMap
refused_of pass = pass.refused

-- the sum of the interests that were added, if any was
abbrev pub interest_sum : Pass → Option Interest
interest_sum pass = pass.interest
