use Rattle.std.proofs.Common.{◌≡◌, ℕ, [], drop, take, unwrap_or}
use Rattle.std.specs.BTreeMap.{get}
use Rattle.std.specs.Ordering.{nat_cmp}
use Rattle.span_export.specs.Entry.{lasting}
use Rattle.span_export.specs.Folded.{last_time, sums_from}
use Rattle.span_export.specs.Site.{named_by}
use Rattle.span_export.specs.Sums.{sums_in}
use Rattle.span_export.specs.private.Scopes.{stacks_by}
use Rattle.span_export.proofs.folded.sum_up.Given as goal

-- the entries and the lanes' times are those of the points so far, and the points to come make the sums so far the whole
abbrev pub invariant-loop-point : goal.invariant-loop-point
invariant-loop-point l = record {
  entries : l.entries.items ≡ lasting (take l.point-index l.points);
  times : (lane : ℕ) → unwrap_or (get nat_cmp l.times lane) 0 ≡ last_time lane (take l.point-index l.points);
  sums : sums_from (named_by l.spans) (stacks_by l.stacks) (sums_in l.sums) (take l.point-index l.points) (drop l.point-index l.points)
      ≡ sums_from (named_by l.spans) (stacks_by l.stacks) [] [] l.points;
}
