use Rattle.std.proofs.Common.{◌∙◌, subst, sym}
use Rattle.std.specs.Str.{IsUtf8}
use Rattle.span_otlp.proofs.Digits.{lower_is_text, of_ok}
use Rattle.span_otlp.proofs.trace_parent.digits_of.Goals as goal

pub returns-in-Ok : goal.returns-in-Ok
returns-in-Ok c =
    let wrote = of_ok c.encode_to_slice.result _ (c.encode_to_slice.ensures.fits.1 c.requires) c.encode_to_slice.ensures.written in
    c.in-Ok.ensures.cases.0 ∙ wrote

pub returns-in-Err : goal.returns-in-Err
returns-in-Err c =
    let wrote = of_ok c.encode_to_slice.result _ (c.encode_to_slice.ensures.fits.1 c.requires) c.encode_to_slice.ensures.written in
    absurd (c.in-Err.ensures.cases.0 (subst IsUtf8 (sym wrote) (lower_is_text c.args.bytes.now)))
