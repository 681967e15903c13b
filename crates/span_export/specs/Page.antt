-- Points as a page: their picture between a head and a tail.
use Rattle.std.specs.Prelude.{◌≡◌, ℕ, List, ◌++◌}
use Rattle.span_export.specs.Picture.{IsPicture}
use Rattle.span_export.specs.declared.page.TheConstants.{PAGE_HEAD, PAGE_TAIL}
use Rattle.span_times.specs.declared.happening.Point.{Point}
use Rattle.span_times.specs.declared.kept.Table.{Table}

-- a text is a page of points: a picture of these, so wide, between the head and the tail of all
-- pages
pub record IsPage (text : List ℕ) (table : Table) (ps : List Point) (width : ℕ) : Type 0 where
  pub picture : List ℕ
  pub pictured : IsPicture picture table ps width
  pub around : text ≡ PAGE_HEAD.now ++ picture ++ PAGE_TAIL.now
