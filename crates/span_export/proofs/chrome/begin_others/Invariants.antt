use Rattle.std.proofs.Common.{◌≡◌, ◌++◌, filter, map, not, take}
use Rattle.std.specs.Prelude.{◌==◌}
use Rattle.serde_json.specs.View.{view}
use Rattle.span_core.specs.Span.{number_of}
use Rattle.span_export.specs.Chrome.{change_event}
use Rattle.span_export.specs.Chrome.Change.{Begins}
use Rattle.span_export.specs.Moment.{names}
use Rattle.span_export.proofs.chrome.begin_others.Given as goal

-- the others so far began
abbrev pub invariant-loop-span : goal.invariant-loop-span
invariant-loop-span l =
    map view l.events.items
    ≡ map view l.fn.events.items
    ++ map (change_event (names l.moment) l.moment.time)
    (map (Begins l.lane.0) (filter (λ x. not (x == number_of l.id)) (take l.span-index (map number_of l.spans))))
