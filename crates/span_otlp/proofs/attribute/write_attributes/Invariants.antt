use Rattle.std.proofs.Common.{◌≡◌, ◌++◌, map, take}
use Rattle.serde_json.specs.View.{view}
use Rattle.span_otlp.specs.Attribute.{attribute_of}
use Rattle.span_times.specs.Field.{field_said}
use Rattle.span_otlp.proofs.attribute.write_attributes.Given as goal

-- the attributes so far
abbrev pub invariant-loop-field : goal.invariant-loop-field
invariant-loop-field l =
    map view l.pairs.items ≡ map view l.fn.pairs.items ++ map (λ f. attribute_of (field_said f.now)) (take l.field-index l.given)
