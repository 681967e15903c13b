use Rattle.std.proofs.Common.{◌∙◌, ap, subst}
use Rattle.std.specs.Str.Lossy.{utf8_lossy}
use Rattle.span_script.specs.Script.{IsSpelled}
use Rattle.span_show.proofs.Read.{of_bytes, of_text, on_err, on_ok}
use Rattle.span_show.specs.Fault.{IsFault}
use Rattle.span_show.proofs.show.show.Goals as goal

pub returns-clause-shown : goal.returns-clause-shown
returns-clause-shown g c =
    let read = c.as_str.ensures.value ∙ c.in_ok-text.ensures.lossy ∙ ap (λ xs. utf8_lossy xs) c.deref.ensures.value in
    on_ok c.show_text.result c.show_text.ensures.shown
    (λ after p. of_bytes (g.R.Read.remaining c.args.reader.now) c.in_ok-bytes.bytes.items c.as_str.result.now c.in_ok-bytes.ensures.all read
    (λ bytes same. record {
      stack = p.stack;
      lines = p.lines;
      requests = p.requests;
      spelled = subst (λ t. IsSpelled t p.stack p.lines) same p.spelled;
      asked = p.asked;
      shown = p.shown;
    }))

pub returns-clause-fault : goal.returns-clause-fault
returns-clause-fault g c =
    let read = c.as_str.ensures.value ∙ c.in_ok-text.ensures.lossy ∙ ap (λ xs. utf8_lossy xs) c.deref.ensures.value in
    let given = g.R.Read.remaining c.args.reader.now in
    on_err c.show_text.result c.show_text.ensures.fault (λ e p. of_text c.args.format given e
    (of_bytes given c.in_ok-bytes.bytes.items c.as_str.result.now c.in_ok-bytes.ensures.all read
    (λ bytes same. subst (λ t. IsFault c.args.format t e) same p)))
