use Rattle.std.proofs.Common.{◌≡◌, ◌∙◌, [], ap, arith, false, get_or, map, refl, rules, sym, true, ◌∷◌}
use Rattle.std.specs.List.{list_any}
use Rattle.std.specs.Prelude.{◌==◌}
use Rattle.std.proofs.lemmas.List.{map-append}
use Rattle.std.proofs.lemmas.List.Sums.{fold_more}
use Rattle.span_core.specs.Span.{number_of}
use Rattle.span_export.proofs.Entries.{numbered, one_more_span}
use Rattle.span_export.specs.Entry.{is_on, with_span}
use Rattle.span_export.specs.declared.entry.Entry.{Entry}
use Rattle.span_export.proofs.entry.spans_in.Goals as goal
use Rattle.span_export.proofs.entry.spans_in.Goals.{then-eq+then-not-contains+in_ok-push, else-eq, else-eq-via-then-eq+else-not-contains, else-eq-via-else-eq}

pub loop-entry-preserved : goal.loop-entry-preserved
loop-entry-preserved c =
    let lane = c.args.lane.0 in
    let es = c.args.entries.now in
    let i = c.loop-entry.entry-index in
    let nothing : Entry = record { lane = record { 0 = 0 }; span = record { number = 0 } } in
    let e = get_or es i nothing in
    let xs = map number_of c.loop-entry.spans.items in
    let on : c.eq.result ≡ is_on lane e = c.eq.ensures in
    let same = numbered (number_of e.span) c.loop-entry.spans.items in
    let now : map number_of c.if-eq.spans.items ≡ with_span lane xs e =
    elim c.if-eq.branch [
      | then-eq+then-not-contains+in_ok-push w ↦
          let found = w.contains.ensures.value ∙ ap (list_any (λ j. number_of j == number_of e.span)) w.deref.ensures.value ∙ same in
          let absent : w.contains.result ≡ false = search rules in
          one_more_span lane xs _ e true false (sym on ∙ w.if-eq.true) (sym found ∙ absent)
          (ap (λ v. map number_of v.items) w.spans-is
          ∙ ap (map number_of) w.in_ok-push.ensures.items ∙ map-append number_of c.loop-entry.spans.items (e.span ∷ []))
      | else-eq w ↦ elim w.else-eq.branch [
        | else-eq-via-then-eq+else-not-contains w' ↦
            let found = w'.contains.ensures.value ∙ ap (list_any (λ j. number_of j == number_of e.span)) w'.deref.ensures.value ∙ same in
            let present : w'.contains.result ≡ true = search rules in
            one_more_span lane xs _ e true true (sym on ∙ w'.if-eq.true) (sym found ∙ present) (ap (λ v. map number_of v.items) w.spans-is)
        | else-eq-via-else-eq w' ↦ one_more_span lane xs _ e false _ (sym on ∙ w'.if-eq.false) refl (ap (λ v. map number_of v.items) w.spans-is)
      ]
    ] in
    now ∙ ap (λ ys. with_span lane ys e) c.loop-entry.invariant ∙ sym (fold_more (with_span lane) [] es i nothing (omega arith))
