use Rattle.std.proofs.Common.{◌∙◌, ap, not, rules, sym, tests, ℕ, List}
use Rattle.std.proofs.lemmas.Iterator.{YieldsList-from_slice}
use Rattle.std.proofs.lemmas.Iterator.Search.{find_from_yields_List}
use Rattle.std.specs.Borrow.{Bor}
use Rattle.std.specs.Prelude.{◌&&◌, bytes_eq, option_map}
use Rattle.span_core.specs.Field.{is_absent}
use Rattle.span_core.specs.declared.field.FieldValue.{FieldValue}
use Rattle.span_log.proofs.Found.{value_found}
use Rattle.span_log.proofs.record.value_under.Goals as goal

abbrev value_in : Bor (Bor (List ℕ) × FieldValue) → FieldValue
value_in x = x.now.1

pub returns-in_err-field : goal.returns-in_err-field
returns-in_err-field c =
    let name = c.args.name.now in
    let values = c.args.values.now in
    c.from_residual.ensures ∙ sym (ap (option_map value_in) c.in_err-field.was) ∙ value_found name values c.find.result
    (find_from_yields_List (λ f. not (is_absent f.1) && bytes_eq f.0.now name) _ _ c.find.result c.find.ensures.ran
    (YieldsList-from_slice values (search rules)) (λ x b q k. search (rules, tests)))

pub returns : goal.returns
returns c =
    let name = c.args.name.now in
    let values = c.args.values.now in
    sym (ap (option_map value_in) c.in_ok-field.was) ∙ value_found name values c.find.result
    (find_from_yields_List (λ f. not (is_absent f.1) && bytes_eq f.0.now name) _ _ c.find.result c.find.ensures.ran
    (YieldsList-from_slice values (search rules)) (λ x b q k. search (rules, tests)))
