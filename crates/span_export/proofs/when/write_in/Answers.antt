use Rattle.std.proofs.Common.{◌∙◌, ◌/◌, ◌%◌, ℕ, List, ◌++◌, ap, string_bytes}
use Rattle.std.proofs.lemmas.Result.{on_ok_weaker}
use Rattle.std.specs.Fmt.{styled_decimal}
use Rattle.std.specs.Prelude.{codes, decimal}
use Rattle.span_export.proofs.Places.{five_joined, three_written}
use Rattle.span_export.specs.When.{three_digits}
use Rattle.span_export.proofs.when.write_in.Goals as goal

pub returns : goal.returns
returns c =
    let n = c.args.thousandths in
    let unit = c.args.unit.now in
    let old = string_bytes c.args.text.now in
    let whole = λ (t : List ℕ). old ++ (decimal (n / 1000) ++ (codes "." ++ (t ++ (codes " " ++ unit)))) in
    on_ok_weaker c.write.result
    (λ bytes. bytes ∙ ap (λ s. whole (styled_decimal s (n % 1000))) c.laid_out.ensures ∙ ap whole (three_written (n % 1000))
    ∙ ap (λ (t : List ℕ). old ++ t) (five_joined (decimal (n / 1000)) (codes ".") (three_digits (n % 1000)) (codes " ") unit))
    c.write.ensures.bytes
