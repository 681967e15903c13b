use Rattle.std.proofs.Common.{◌≡◌, take}
use Rattle.span_export.specs.Site.{given_said, put_fields}
use Rattle.span_times.specs.Field.{kept_in}
use Rattle.span_export.proofs.given.put_all.Given as goal

-- the fields so far are put
abbrev pub invariant-loop-field : goal.invariant-loop-field
invariant-loop-field l = given_said l.given.items ≡ put_fields (take l.field-index (kept_in l.fields)) (given_said l.fn.given.items)
