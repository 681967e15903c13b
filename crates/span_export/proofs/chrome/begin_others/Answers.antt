use Rattle.std.proofs.Common.{◌≡◌, ◌∙◌, ◌<◌, ap, arith, false, get_or, length, map, not, rules, sym, true}
use Rattle.std.specs.Prelude.{◌==◌}
use Rattle.std.proofs.lemmas.List.{get_or-map, length-map}
use Rattle.serde_json.specs.View.{view}
use Rattle.span_core.specs.Span.{number_of}
use Rattle.span_core.specs.declared.span.Id.{Id}
use Rattle.span_export.proofs.Boxes.{one_more_begun}
use Rattle.span_export.specs.Chrome.{change_event}
use Rattle.span_export.specs.Moment.{names}
use Rattle.span_export.proofs.chrome.begin_others.Goals as goal
use Rattle.span_export.proofs.chrome.begin_others.Goals.{then-ne+in_ok-write_begins, else-ne}

pub loop-span-preserved : goal.loop-span-preserved
loop-span-preserved c =
    let f = change_event (names c.args.moment.now) c.args.moment.now.time in
    let spans = c.args.spans.now in
    let i = c.loop-span.span-index in
    let within : i < length (map number_of spans) = simp length-map (omega arith) in
    let none : Id = record { number = 0 } in
    let x = number_of (get_or spans i none) in
    let this : x ≡ get_or (map number_of spans) i 0 = sym (get_or-map number_of spans i none 0 (omega arith)) in
    let start = map view c.args.events.now.items in
    let old = map view c.loop-span.events.items in
    elim c.if-ne.branch [
      | then-ne+in_ok-write_begins w ↦
          let is : not (x == number_of c.args.id) ≡ true = search rules in
          one_more_begun f c.args.lane.0 (λ y. not (y == number_of c.args.id)) (map number_of spans) i x start old _ true within this is
          (ap (λ v. map view v.items) w.events-is ∙ w.in_ok-write_begins.ensures) c.loop-span.invariant
      | else-ne w ↦
          let is : not (x == number_of c.args.id) ≡ false = search rules in
          one_more_begun f c.args.lane.0 (λ y. not (y == number_of c.args.id)) (map number_of spans) i x start old _ false within this is
          (ap (λ v. map view v.items) w.events-is) c.loop-span.invariant
    ]
