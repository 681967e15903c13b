use Rattle.std.proofs.Common.{◌∙◌, ◌/◌, ◌%◌, ℕ, List, ◌++◌, ap, string_bytes}
use Rattle.std.proofs.lemmas.Result.{on_ok_weaker}
use Rattle.std.specs.Fmt.{styled_decimal}
use Rattle.std.specs.Prelude.{codes, decimal}
use Rattle.span_stream.proofs.Timed.{four_joined, six_written}
use Rattle.span_stream.specs.Time.{six_digits}
use Rattle.span_stream.proofs.time.write_seconds.Goals as goal

pub returns : goal.returns
returns c =
    let micros = c.args.time / 1000 in
    let old = string_bytes c.args.text.now in
    let whole = λ (t : List ℕ). old ++ (decimal (micros / 1_000_000) ++ (codes "." ++ (t ++ codes "s"))) in
    on_ok_weaker c.write.result
    (λ bytes. bytes ∙ ap (λ s. whole (styled_decimal s (micros % 1_000_000))) c.laid_out.ensures ∙ ap whole (six_written (micros % 1_000_000))
    ∙ ap (λ (t : List ℕ). old ++ t) (four_joined (decimal (micros / 1_000_000)) (codes ".") (six_digits (micros % 1_000_000)) (codes "s")))
    c.write.ensures.bytes
