use Rattle.std.proofs.Common.{◌≡◌, ◌∙◌, ◌<◌, ap, arith, get_or, length, sym, take}
use Rattle.std.proofs.lemmas.List.{get_or-map, length-map}
use Rattle.std.proofs.lemmas.List.Sums.{fold_more}
use Rattle.span_export.specs.Site.{given_said, put_field, put_fields}
use Rattle.span_times.specs.Field.{field_said, kept_in}
use Rattle.span_export.proofs.given.put_all.Goals as goal

pub loop-field-preserved : goal.loop-field-preserved
loop-field-preserved c =
    let field = c.field-item.result in
    let fs = kept_in c.args.fields.now in
    let i = c.loop-field.field-index in
    let old = given_said c.args.given.now.items in
    let within : i < length fs = simp length-map (omega arith) in
    let its : field_said field ≡ get_or fs i (field_said field) =
    ap field_said c.field-item.is ∙ sym (get_or-map field_said c.args.fields.now i field (field_said field) (omega arith)) in
    c.in_ok-put.ensures ∙ ap (put_field (field_said field)) c.loop-field.invariant ∙ ap (λ f. put_field f (put_fields (take i fs) old)) its
    ∙ sym (fold_more (λ gs f. put_field f gs) old fs i (field_said field) within)
