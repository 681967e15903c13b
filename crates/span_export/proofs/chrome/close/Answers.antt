use Rattle.std.proofs.Common.{◌≡◌, ◌∙◌, ◌++◌, ◌+◌, ◌<◌, ap, arith, drop, false, get_or, length, map, not, rules, sym, true}
use Rattle.std.specs.List.{list_any}
use Rattle.std.specs.Prelude.{◌&&◌}
use Rattle.std.proofs.lemmas.List.{drop_more, take_rest}
use Rattle.serde_json.specs.View.{view}
use Rattle.span_core.specs.Span.{number_of}
use Rattle.span_export.proofs.Boxes.{one_more_closed}
use Rattle.span_export.specs.Chrome.{change_event, closed_on, redrawn}
use Rattle.span_export.specs.Entry.{is_into, is_of, spans_on}
use Rattle.span_export.specs.Moment.{names}
use Rattle.span_export.specs.declared.entry.Entry.{Entry}
use Rattle.span_export.proofs.chrome.close.Goals as goal
use Rattle.span_export.proofs.chrome.close.Goals.{then-eq+then-not-is_among+in_ok-redraw, else-eq, else-eq-via-then-eq+else-not-is_among, else-eq-via-else-eq}

pub loop-place-preserved : goal.loop-place-preserved
loop-place-preserved c =
    let f = change_event (names c.args.moment.now) c.args.moment.now.time in
    let x = number_of c.args.id in
    let es = c.args.entries.now in
    let i = c.loop-place.place in
    let nothing : Entry = record { lane = record { 0 = 0 }; span = record { number = 0 } } in
    let e = get_or es i nothing in
    let lane = e.lane.0 in
    let within : i < length es = omega arith in
    let split = drop_more es i nothing within in
    let old = map view c.loop-place.events.items in
    let into : c.eq.result ≡ is_into x e = c.eq.ensures in
    elim c.if-eq.branch [
      | then-eq+then-not-is_among+in_ok-redraw w ↦
          let found : w.is_among.result ≡ list_any (is_of lane x) (drop (i + 1) es) =
          w.is_among.ensures ∙ ap (list_any (is_of lane x)) (take_rest es (i + 1)) in
          let none : w.is_among.result ≡ false = search rules in
          let test = ap (λ b. b && not (list_any (is_of lane x) (drop (i + 1) es))) (sym into ∙ w.if-eq.true) ∙ ap not (sym found ∙ none) in
          let grew = ap (λ v. map view v.items) w.events-is ∙ w.in_ok-redraw.ensures
          ∙ ap (λ ys. old ++ map f (redrawn x lane (spans_on lane ys))) w.since_oldest-since.ensures in
          one_more_closed f x (closed_on x es) es i e old _ _ true within split test grew c.loop-place.invariant
      | else-eq w ↦ elim w.else-eq.branch [
        | else-eq-via-then-eq+else-not-is_among w' ↦
            let found : w'.is_among.result ≡ list_any (is_of lane x) (drop (i + 1) es) =
            w'.is_among.ensures ∙ ap (list_any (is_of lane x)) (take_rest es (i + 1)) in
            let some : w'.is_among.result ≡ true = search rules in
            let test = ap (λ b. b && not (list_any (is_of lane x) (drop (i + 1) es))) (sym into ∙ w'.if-eq.true) ∙ ap not (sym found ∙ some) in
            one_more_closed f x (closed_on x es) es i e old _ _ false within split test (ap (λ v. map view v.items) w.events-is) c.loop-place.invariant
        | else-eq-via-else-eq w' ↦
            let test = ap (λ b. b && not (list_any (is_of lane x) (drop (i + 1) es))) (sym into ∙ w'.if-eq.false) in
            one_more_closed f x (closed_on x es) es i e old _ _ false within split test (ap (λ v. map view v.items) w.events-is) c.loop-place.invariant
      ]
    ]
