use Rattle.std.proofs.Common.{◌≡◌, ◌++◌, drop}
use Rattle.span_times.specs.Field.{kept_in}
use Rattle.span_times.proofs.finished.copy_fields.Given as goal

-- the copies so far and those of the fields to come are all
abbrev pub invariant-loop-field : goal.invariant-loop-field
invariant-loop-field l = kept_in l.fields.items ++ kept_in (drop l.field-index l.given) ≡ kept_in l.fn.fields.items ++ kept_in l.given
