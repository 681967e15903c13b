use Rattle.std.proofs.Common.{◌≡◌, ◌++◌, ℕ, drop, map, take}
use Rattle.std.specs.BTreeSet.{contains}
use Rattle.std.specs.Ordering.{nat_cmp}
use Rattle.serde_json.specs.View.{view}
use Rattle.span_export.specs.Chrome.{events_from, events_since, is_known}
use Rattle.span_export.specs.Entry.{lasting}
use Rattle.span_export.specs.Site.{named_in}
use Rattle.span_export.proofs.chrome.trace_events.Given as goal

-- the entries and the lanes are those of the points so far, and the points to come make the events so far the whole
abbrev pub invariant-loop-point : goal.invariant-loop-point
invariant-loop-point l = record {
  entries : l.entries.items ≡ lasting (take l.point-index l.points);
  known : (lane : ℕ) → contains nat_cmp l.known lane ≡ is_known (take l.point-index l.points) lane;
  events : map view l.events.items
      ++ events_from l.table (named_in l.table l.points) l.begin (take l.point-index l.points) (drop l.point-index l.points)
      ≡ events_since l.table l.begin l.points;
}
