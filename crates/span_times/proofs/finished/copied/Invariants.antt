use Rattle.std.proofs.Common.{◌≡◌, ◌++◌, drop, flat_map, length}
use Rattle.std.specs.BTreeSet.{contains}
use Rattle.std.specs.Ordering.{nat_cmp}
use Rattle.span_times.specs.Field.{kept_in}
use Rattle.span_times.specs.Finished.{picked, points_for, points_said}
use Rattle.span_times.proofs.finished.copied.Given as goal

-- the copies so far and those of the points to come are all
abbrev pub invariant-loop-point : goal.invariant-loop-point
invariant-loop-point l =
    let all = picked l.over (contains nat_cmp l.closed) (points_said (kept_in l.fields) l.points) in
    let rest = picked l.over (contains nat_cmp l.closed) (points_said (kept_in l.fields) (drop l.point-index l.points)) in
    record {
      points : l.batch.points.items ++ points_for (length (kept_in l.batch.fields.items)) rest ≡ points_for 0 all;
      fields : kept_in l.batch.fields.items ++ flat_map (λ s. s.fields) rest ≡ flat_map (λ s. s.fields) all;
    }
