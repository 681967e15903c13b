-- How a picture is laid out.
use Rattle.std.specs.Prelude.{◌≡◌, ◌<◌, ◌≤◌, ◌+◌, ◌-◌, ◌*◌, ◌==◌, ℕ, if◌then◌else◌, max, List, [], ◌∷◌, None, Option, Some, fold}
use Rattle.std.specs.BTreeMap.{is_at}
use Rattle.std.specs.List.Sorted.{IsStrictlySortedBy}
use Rattle.std.specs.Map.{keys_of, lookup}
use Rattle.std.specs.Ordering.{nat_cmp}
use Rattle.span_export.specs.Picture.{has_points}
use Rattle.span_export.specs.declared.frame.Plan.{Plan}
use Rattle.span_export.specs.declared.picture.Scale.{Scale}
use Rattle.span_export.specs.declared.stay.Stay.{Stay}
use Rattle.span_times.specs.Measure.{capped}
use Rattle.span_times.specs.declared.happening.Point.{Point}

-- how many rows a lane has: as many as its deepest stay needs, and at least one
abbrev pub rows_on : ℕ → List Stay → ℕ
rows_on lane stays =
    fold (λ rows s. if s.lane.0 == lane then max rows (capped (s.depth + 1)) else rows) 1 stays

-- the rows of a lane that has points
abbrev pub rows_in : List Point → List Stay → ℕ → Option ℕ
rows_in ps stays lane = if has_points ps lane then Some (rows_on lane stays) else None

-- the top of the lane below one with this top and so many rows
abbrev pub below : ℕ → ℕ → ℕ
below top rows = capped (capped (top + capped (rows * 24)) + 24)

-- the tops of lanes with so many rows, the first of them here
abbrev pub tops_from : ℕ → List (ℕ × ℕ) → List (ℕ × ℕ)
tops_from top [] = []
tops_from top (e ∷ es) = (e.0, top) ∷ tops_from (below top e.1) es

-- where the last of them ends
abbrev pub end_from : ℕ → List (ℕ × ℕ) → ℕ
end_from top [] = top
end_from top (e ∷ es) = end_from (below top e.1) es

-- a plan has the lanes with points by their numbers, each below the rows of the one before
pub record IsPlanOf (plan : Plan) (scale : Scale) (ps : List Point) (stays : List Stay)
    : Type 0 where
  pub rows : List (ℕ × ℕ)
  pub sorted : IsStrictlySortedBy nat_cmp (keys_of rows)
  pub counted : (lane : ℕ) → lookup (is_at (nat_cmp lane)) rows ≡ rows_in ps stays lane
  pub tops : plan.tops.entries ≡ tops_from 56 rows
  pub height : plan.height ≡ end_from 56 rows
  pub axis : scale.finish - scale.begin < plan.step * 9
  pub steps : plan.step * 3 ≤ max (scale.finish - scale.begin) 3
