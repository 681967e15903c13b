use Rattle.std.proofs.Common.{◌∙◌, ◌++◌, ap, arith, codes, flat_map, string_bytes, sym}
use Rattle.std.proofs.lemmas.List.{take_all}
use Rattle.span_export.proofs.Put.{texts_fused}
use Rattle.span_export.specs.Given.{field_shown}
use Rattle.span_times.specs.Field.{field_said}
use Rattle.span_export.proofs.given.write_rest.Goals as goal

pub returns : goal.returns
returns c =
    c.loop-field.invariant
    ∙ ap (λ fs. string_bytes c.args.text.now ++ flat_map (λ f. codes " " ++ field_shown (field_said f.now)) fs)
    (take_all c.loop-field.field-index c.args.given.now (omega arith))
    ∙ ap (λ t. string_bytes c.args.text.now ++ t) (sym (texts_fused (λ f. codes " " ++ field_shown f) (λ f. field_said f.now) c.args.given.now))
