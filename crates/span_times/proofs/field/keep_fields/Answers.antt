use Rattle.std.proofs.Common.{◌∙◌, ap, take}
use Rattle.span_times.proofs.KeptFields.{cut_back, field_more, has_some}
use Rattle.span_times.specs.Field.{fields_said, kept_in}
use Rattle.span_times.proofs.field.keep_fields.Goals as goal

pub returns-in-Err-clause-unchanged : goal.returns-in-Err-clause-unchanged
returns-in-Err-clause-unchanged c =
    ap kept_in (c.truncate.ensures.items ∙ ap (take c.len-before.result) c.in-Err.ensures.unchanged)
    ∙ cut_back c.loop-field.fields.items c.args.fields.now.items
    (fields_said (take c.loop-field.field-index c.args.values.now)) c.len-before.result (c.len-before.ensures ∙ c.args.fields.now.ok.0) c.loop-field.invariant

pub returns-in-Err-clause-refused : goal.returns-in-Err-clause-refused
returns-in-Err-clause-refused c = has_some c.args.values.now c.loop-field.field-index _ c.loop-field-test.true c.in-Err.ensures.refused

pub loop-field-preserved : goal.loop-field-preserved
loop-field-preserved c =
    field_more c.args.values.now c.loop-field.field-index _ (kept_in c.args.fields.now.items)
    (kept_in c.loop-field.fields.items) (kept_in c.keep_field.new.fields.items) c.loop-field-test.true c.loop-field.invariant c.in_default.ensures.kept
