use Rattle.std.proofs.Common.{◌≡◌, ◌++◌, take, string_bytes}
use Rattle.span_format.specs.Field.{fields_text}
use Rattle.span_format.proofs.field.write_fields.Given as goal

-- the fields so far
abbrev pub invariant-loop-field : goal.invariant-loop-field
invariant-loop-field l = string_bytes l.text ≡ string_bytes l.fn.text ++ fields_text l.layout (take l.field-index l.values)
