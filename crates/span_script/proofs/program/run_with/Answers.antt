use Rattle.std.proofs.Common.{◌∙◌, ap, sym, subst}
use Rattle.std.specs.Str.Lossy.{utf8_lossy}
use Rattle.span_script.specs.Program.{Prints}
use Rattle.span_script.proofs.Written.{printable, refused, written}
use Rattle.span_script.proofs.program.run_with.Goals as goal

pub returns-clause-done : goal.returns-clause-done
returns-clause-done g c =
    written (Prints c.args.limits) (g.R.Read.remaining c.args.reader.now) c.in_ok-bytes.bytes.items c.as_str.result.now c.as_str-2.result.now
    (g.W.Write.contents c.args.writer.now) (g.W.Write.contents c.write_output.new.writer) c.write_output.result
    c.in_ok-bytes.ensures.all
    (c.as_str.ensures.value ∙ c.in_ok-text.ensures.lossy ∙ ap (λ xs. utf8_lossy xs) c.deref.ensures.value)
    (subst (λ o. Prints c.args.limits c.as_str.result.now o) (sym c.as_str-2.ensures.value) c.in_ok-output.ensures.printed)
    c.write_output.ensures.all

pub returns-clause-unwritten : goal.returns-clause-unwritten
returns-clause-unwritten g c = refused _ _ c.write_output.result c.write_output.ensures.fault
    (printable
    (Prints c.args.limits) (g.R.Read.remaining c.args.reader.now) c.in_ok-bytes.bytes.items c.as_str.result.now c.as_str-2.result.now c.in_ok-bytes.ensures.all
    (c.as_str.ensures.value ∙ c.in_ok-text.ensures.lossy ∙ ap (λ xs. utf8_lossy xs) c.deref.ensures.value)
    (subst (λ o. Prints c.args.limits c.as_str.result.now o) (sym c.as_str-2.ensures.value) c.in_ok-output.ensures.printed))
