use Rattle.std.proofs.Common.{◌≡◌, ◌++◌, codes, flat_map, string_bytes, take}
use Rattle.span_export.specs.Given.{field_shown}
use Rattle.span_times.specs.Field.{field_said}
use Rattle.span_export.proofs.given.write_rest.Given as goal

-- the fields so far are written
abbrev pub invariant-loop-field : goal.invariant-loop-field
invariant-loop-field l =
    string_bytes l.text ≡ string_bytes l.fn.text ++ flat_map (λ f. codes " " ++ field_shown (field_said f.now)) (take l.field-index l.given)
