use Rattle.std.proofs.Common.{◌≡◌, ◌∙◌, Some, ap, sym}
use Rattle.std.specs.Result.{result_ok}
use Rattle.hex.specs.Hex.{decode_sized}
use Rattle.span_otlp.proofs.Digits.{front_found}
use Rattle.span_otlp.proofs.trace_parent.bytes_in_front.Goals as goal

pub returns : goal.returns
returns g c =
    let cut = c.in_ok-digits.ensures.cases in
    let low = sym c.has_capital.ensures ∙ c.if-has_capital.false in
    let decoded : result_ok (decode_sized c.in_ok-digits.digits.now g.row.N) ≡ Some c.in_ok-bytes.bytes =
    ap result_ok (sym c.from_hex.ensures) ∙ sym c.in_ok-bytes.ensures.value in
    front_found g.row.N c.args.text.now c.in_ok-digits.digits.now c.in_ok-digits.rest.now c.in_ok-bytes.bytes cut.0 cut.1 cut.2 low decoded
