use Rattle.std.proofs.Common.{◌≡◌, ◌∙◌, ℕ, List, ◌++◌, ap, refl, string_bytes}
use Rattle.std.specs.FinMap.{insert}
use Rattle.span_error.specs.Kept.{kept_text}
use Rattle.span_fmt.specs.Text.{fields_text}
use Rattle.span_error.proofs.Keeping.{keeps_text, text_place}
use Rattle.span_error.proofs.kept.keep.Goals as goal

pub returns-in-Ok-clause-kept : goal.returns-in-Ok-clause-kept
returns-in-Ok-clause-kept c =
    let m = c.args.extensions.now in
    let t = c.write_fields.new.text in
    let given = fields_text c.args.values.now in
    let before : string_bytes c.in_ok-text.text ≡ kept_text text_place m =
    c.in_ok-text.ensures.ok ∙ c.text_kept.ensures ∙ ap (kept_text text_place) c.new.ensures in
    keeps_text text_place (λ m t. refl) m c.replace.new.self t given (c.in_ok-write_fields.ensures ∙ ap (λ (bytes : List ℕ). bytes ++ given) before)
    (c.in-Ok.ensures.replaced ∙ ap (λ (k : ℕ). text_place.with_values m (insert (text_place.values m) k t)) c.fields_tag.ensures)
