use Rattle.std.proofs.Common.{◌≡◌, ◌++◌, take}
use Rattle.span_times.specs.Field.{fields_said, kept_in}
use Rattle.span_times.proofs.field.keep_fields.Given as goal

-- the fields so far are kept
abbrev pub invariant-loop-field : goal.invariant-loop-field
invariant-loop-field l = kept_in l.fields.items ≡ kept_in l.fn.fields.items ++ fields_said (take l.field-index l.values)
