use Rattle.std.proofs.Common.{◌∙◌, ap, sym, take}
use Rattle.std.proofs.lemmas.List.{take_more}
use Rattle.serde_json.specs.View.{members_view}
use Rattle.span_stream.specs.Values.{with_value, with_values}
use Rattle.span_stream.proofs.Valued.{values_more}
use Rattle.span_stream.proofs.values.put_values.Goals as goal

pub loop-field-preserved : goal.loop-field-preserved
loop-field-preserved c =
    let values = c.args.values.now in
    let i = c.loop-field.field-index in
    let ms = members_view c.args.members.now.entries in
    let before = take i values in
    c.in_ok-put_value.ensures ∙ ap (with_value _ _) c.loop-field.invariant ∙ sym (values_more before _ ms)
    ∙ ap (λ fs. with_values fs ms) (sym (take_more values i _ c.loop-field-test.true))
