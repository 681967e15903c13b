use Rattle.std.proofs.Common.{◌∙◌, Ok, ap, sym, subst}
use Rattle.std.specs.Str.Lossy.{utf8_lossy}
use Rattle.span_script.specs.Program.{PrintsShared}
use Rattle.span_script.proofs.Written.{handed_on, printable, refused, written}
use Rattle.span_script.proofs.program.run_shared.Goals as goal

pub returns-clause-done : goal.returns-clause-done
returns-clause-done g c =
    written PrintsShared {A = Unit {0}} (g.R.Read.remaining c.args.reader.now) c.in_ok-bytes.bytes.items c.as_str.result.now c.as_str-2.result.now
    (g.W.Write.contents c.args.writer.now) (g.W.Write.contents c.write_output.new.writer) (Ok tt)
    c.in_ok-bytes.ensures.all
    (c.as_str.ensures.value ∙ c.in_ok-text.ensures.lossy ∙ ap (λ xs. utf8_lossy xs) c.deref.ensures.value)
    (subst (λ o. PrintsShared c.as_str.result.now o) (sym c.as_str-2.ensures.value) c.in_ok-output.ensures.printed)
    c.in_ok-write_output.ensures.all

pub returns-in_err-write_output-clause-unwritten : goal.returns-in_err-write_output-clause-unwritten
returns-in_err-write_output-clause-unwritten g c =
    let r = c.from_residual-in_err-write_output.result in
    refused _ _ r (handed_on r c.in_err-write_output.field-0.0 c.from_residual-in_err-write_output.ensures.1 c.in_err-write_output.ensures.fault)
    (printable PrintsShared (g.R.Read.remaining c.args.reader.now) c.in_ok-bytes.bytes.items c.as_str.result.now c.as_str-2.result.now c.in_ok-bytes.ensures.all
    (c.as_str.ensures.value ∙ c.in_ok-text.ensures.lossy ∙ ap (λ xs. utf8_lossy xs) c.deref.ensures.value)
    (subst (λ o. PrintsShared c.as_str.result.now o) (sym c.as_str-2.ensures.value) c.in_ok-output.ensures.printed))
