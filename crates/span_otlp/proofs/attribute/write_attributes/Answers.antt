use Rattle.std.proofs.Common.{◌∙◌, ◌++◌, ap, arith, map, sym}
use Rattle.std.proofs.lemmas.List.{take_all}
use Rattle.serde_json.specs.View.{view}
use Rattle.std.proofs.lemmas.Simd.{map-map}
use Rattle.span_otlp.specs.Attribute.{attribute_of}
use Rattle.span_times.specs.Field.{field_said}
use Rattle.span_otlp.proofs.attribute.write_attributes.Goals as goal

pub returns : goal.returns
returns c =
    c.loop-field.invariant
    ∙ ap (λ fs. map view c.args.pairs.now.items ++ map (λ f. attribute_of (field_said f.now)) fs)
    (take_all c.loop-field.field-index c.args.given.now (omega arith))
    ∙ ap (λ ds. map view c.args.pairs.now.items ++ ds) (sym (map-map attribute_of (λ f. field_said f.now) c.args.given.now))
