use Rattle.std.proofs.Common.{◌≡◌, ℕ, take}
use Rattle.std.specs.BTreeSet.{contains}
use Rattle.std.specs.Ordering.{nat_cmp}
use Rattle.span_times.specs.Finished.{is_closed_in}
use Rattle.span_times.proofs.finished.closed_in.Given as goal

-- the spans that are closed after the points so far are noted
abbrev pub invariant-loop-point : goal.invariant-loop-point
invariant-loop-point l = (x : ℕ) → contains nat_cmp l.closed x ≡ is_closed_in (take l.point-index l.points) x
