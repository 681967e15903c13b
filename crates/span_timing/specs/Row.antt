-- How long the spans of a callsite took.
use Rattle.std.specs.Prelude.{List, map}
use Rattle.span_timing.specs.Histogram.{IsOf, IsSame}
use Rattle.span_timing.specs.declared.life.Life.{Life}
use Rattle.span_timing.specs.declared.timing.Row.{Row}

-- the row of these lives: the histograms of just their times
pub record IsRowOf (lives : List Life) (row : Row) : Type 0 where
  pub busy : IsOf (map (λ l. l.busy) lives) row.busy
  pub idle : IsOf (map (λ l. l.idle) lives) row.idle
  pub «open» : IsOf (map (λ l. l.open) lives) row.open

-- the second row has the histograms of the first
pub record IsSameRow (row copy : Row) : Type 0 where
  pub busy : IsSame row.busy copy.busy
  pub idle : IsSame row.idle copy.idle
  pub «open» : IsSame row.open copy.open
