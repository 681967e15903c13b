use Rattle.std.proofs.Common.{◌≡◌, ◌++◌, drop, map, reverse}
use Rattle.serde_json.specs.View.{view}
use Rattle.span_core.specs.Span.{number_of}
use Rattle.span_export.specs.Chrome.{change_event}
use Rattle.span_export.specs.Chrome.Change.{Ends}
use Rattle.span_export.specs.Moment.{names}
use Rattle.span_export.proofs.chrome.end_all.Given as goal

-- those from here on ended
abbrev pub invariant-loop-place : goal.invariant-loop-place
invariant-loop-place l =
    map view l.events.items
    ≡ map view l.fn.events.items ++ map (change_event (names l.moment) l.moment.time) (map (Ends l.lane.0) (reverse (drop l.place (map number_of l.spans))))
