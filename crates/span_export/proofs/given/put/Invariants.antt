use Rattle.std.proofs.Common.{◌≡◌, ◌++◌, drop, take}
use Rattle.span_export.specs.Site.{given_said, put_field}
use Rattle.span_times.specs.Field.{field_said}
use Rattle.span_export.proofs.given.put.Given as goal

-- none of those before has the name
abbrev pub invariant-loop-place : goal.invariant-loop-place
invariant-loop-place l = record {
  same : l.given.items ≡ l.fn.given.items;
  looked : put_field (field_said l.field) (given_said l.given.items)
      ≡ take l.place (given_said l.given.items) ++ put_field (field_said l.field) (drop l.place (given_said l.given.items));
}
