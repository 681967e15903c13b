use Rattle.std.proofs.Common.{◌≡◌, ◌+◌, ◌≤◌, drop}
use Rattle.span_times.specs.Measure.{count_in, is_close, is_event, is_opening}
use Rattle.span_times.proofs.measure.Counts.of.Given as goal

-- each count so far and what the points to come add make up the whole
abbrev pub invariant-loop-point : goal.invariant-loop-point
invariant-loop-point l = record {
  room : (l.opened ≤ l.point-index) × (l.closed ≤ l.point-index) × (l.events ≤ l.point-index);
  opened : l.opened + count_in is_opening (drop l.point-index l.points) ≡ count_in is_opening l.points;
  closed : l.closed + count_in is_close (drop l.point-index l.points) ≡ count_in is_close l.points;
  events : l.events + count_in is_event (drop l.point-index l.points) ≡ count_in is_event l.points;
}
