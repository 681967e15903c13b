use Rattle.std.proofs.Common.{◌≡◌, ◌∙◌, ◌++◌, ap, filter, map, not, sym}
use Rattle.std.proofs.lemmas.Result.{on_ok_weaker}
use Rattle.std.specs.Prelude.{◌==◌}
use Rattle.serde_json.specs.View.{view}
use Rattle.span_core.specs.Span.{number_of}
use Rattle.span_export.proofs.Boxes.{both_drawn}
use Rattle.span_export.specs.Chrome.{change_event, redrawn}
use Rattle.span_export.specs.Chrome.Change.{Begins}
use Rattle.span_export.specs.Entry.{spans_on}
use Rattle.span_export.specs.Moment.{names}
use Rattle.span_export.proofs.chrome.redraw.Goals as goal

pub returns : goal.returns
returns c =
    let f = change_event (names c.args.moment.now) c.args.moment.now.time in
    let x = number_of c.args.id in
    let lane = c.args.lane.0 in
    let start = map view c.args.events.now.items in
    let first : map number_of c.deref.result.now ≡ spans_on lane c.args.entries.now = ap (map number_of) c.deref.ensures.value ∙ c.in_ok-spans.ensures in
    let second : map number_of c.deref-2.result.now ≡ map number_of c.deref.result.now =
    ap (map number_of) (c.deref-2.ensures.value ∙ sym c.deref.ensures.value) in
    on_ok_weaker c.begin_others.result (λ begun.
    both_drawn f lane x (map number_of c.deref.result.now) start (map view c.end_all.new.events.items) (map view c.begin_others.new.events.items)
    c.in_ok-end_all.ensures (begun ∙ ap (λ xs. map view c.end_all.new.events.items ++ map f (map (Begins lane) (filter (λ y. not (y == x)) xs))) second)
    ∙ ap (λ xs. start ++ map f (redrawn x lane xs)) first) c.begin_others.ensures
