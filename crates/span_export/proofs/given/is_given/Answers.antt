use Rattle.std.proofs.Common.{◌∙◌, Bool, ap, arith, string_bytes, sym}
use Rattle.std.specs.Borrow.{Bor}
use Rattle.std.specs.List.{list_any}
use Rattle.std.specs.Str.{bytes_eq}
use Rattle.std.proofs.lemmas.List.{drop_all}
use Rattle.span_export.proofs.Put.{any_behind, any_fused, any_here}
use Rattle.span_times.specs.Field.{field_said}
use Rattle.span_times.specs.declared.field.OwnedField.{OwnedField}
use Rattle.span_export.proofs.given.is_given.Goals as goal

pub returns-then-has_name : goal.returns-then-has_name
returns-then-has_name c =
    let named : Bor OwnedField → Bool = λ f. bytes_eq (string_bytes f.now.name) c.args.name.now in
    sym (any_fused (λ f. bytes_eq f.0 c.args.name.now) (λ f. field_said f.now) c.args.given.now ∙ sym c.loop-field.invariant
    ∙ any_here named c.args.given.now c.loop-field.field-index c.field-item.result c.loop-field-test.true
    (ap named (sym c.field-item.is) ∙ sym c.has_name.ensures ∙ c.if-has_name.true))

pub loop-field-preserved : goal.loop-field-preserved
loop-field-preserved c =
    let named : Bor OwnedField → Bool = λ f. bytes_eq (string_bytes f.now.name) c.args.name.now in
    any_behind named c.args.given.now c.loop-field.field-index c.field-item.result c.loop-field-test.true
    (ap named (sym c.field-item.is) ∙ sym c.has_name.ensures ∙ c.if-has_name.false) ∙ c.loop-field.invariant

pub returns : goal.returns
returns c =
    let named : Bor OwnedField → Bool = λ f. bytes_eq (string_bytes f.now.name) c.args.name.now in
    sym (any_fused (λ f. bytes_eq f.0 c.args.name.now) (λ f. field_said f.now) c.args.given.now ∙ sym c.loop-field.invariant
    ∙ ap (list_any named) (drop_all c.loop-field.field-index c.args.given.now (omega arith)))
