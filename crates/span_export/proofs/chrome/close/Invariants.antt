use Rattle.std.proofs.Common.{◌≡◌, ◌++◌, drop, flat_map, map}
use Rattle.serde_json.specs.View.{view}
use Rattle.span_core.specs.Span.{number_of}
use Rattle.span_export.specs.Chrome.{change_event, closed_on, lanes_in}
use Rattle.span_export.specs.Moment.{names}
use Rattle.span_export.proofs.chrome.close.Given as goal

-- what is written and what is left make the whole
abbrev pub invariant-loop-place : goal.invariant-loop-place
invariant-loop-place l =
    map view l.events.items
    ++ map (change_event (names l.moment) l.moment.time) (flat_map (closed_on (number_of l.id) l.entries) (lanes_in (number_of l.id) (drop l.place l.entries)))
    ≡ map view l.fn.events.items
    ++ map (change_event (names l.moment) l.moment.time) (flat_map (closed_on (number_of l.id) l.entries) (lanes_in (number_of l.id) l.entries))
