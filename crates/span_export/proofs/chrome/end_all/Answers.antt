use Rattle.std.proofs.Common.{◌≡◌, ◌++◌, ◌-◌, ◌+◌, ◌<◌, arith, drop, length, map, reverse, sym}
use Rattle.std.proofs.lemmas.List.{get_or-map, length-map}
use Rattle.serde_json.specs.View.{view}
use Rattle.span_core.specs.Span.{number_of}
use Rattle.span_export.proofs.Boxes.{one_more_ended}
use Rattle.span_export.specs.Chrome.{change_event}
use Rattle.span_export.specs.Chrome.Change.{Ends}
use Rattle.span_export.specs.Moment.{names}
use Rattle.span_export.proofs.chrome.end_all.Goals as goal

pub loop-place-preserved : goal.loop-place-preserved
loop-place-preserved c =
    let f = change_event (names c.args.moment.now) c.args.moment.now.time in
    let spans = c.args.spans.now in
    let i = c.loop-place.place - 1 in
    let next : i + 1 ≡ c.loop-place.place = omega arith in
    let within : i < length (map number_of spans) = simp length-map (omega arith) in
    let start = map view c.args.events.now.items in
    let old = map view c.loop-place.events.items in
    let so_far : old ≡ start ++ map f (map (Ends c.args.lane.0) (reverse (drop (i + 1) (map number_of spans)))) = rw next c.loop-place.invariant in
    one_more_ended f c.args.lane.0
    (map number_of spans) i _ start old _ within (sym (get_or-map number_of spans i (record { number = 0 }) 0 (omega arith))) so_far c.in_ok-write_ends.ensures
