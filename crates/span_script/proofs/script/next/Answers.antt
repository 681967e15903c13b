use Rattle.std.proofs.Common.{◌∙◌, ap, arith, rules, sym}
use Rattle.span_script.specs.Fault.{Blames, IsWrongFor}
use Rattle.span_script.specs.Script.{read_in, texts_in, IsFirst, IsLater}
use Rattle.span_script.proofs.Columns.{misfit-in}
use Rattle.span_script.proofs.Wrong.{first-blamed, label-blamed, later-blamed}
use Rattle.span_script.proofs.script.next.Goals as goal

pub column-column-requires-clause-left : goal.column-column-requires-clause-left
column-column-requires-clause-left c =
    (misfit-in IsFirst c.deref.result.now c.deref-in-Err.result.now _ c.args.text.now c.in-Err.misfit
    c.in-Err.ensures.fault c.deref.ensures.value c.deref-in-Err.ensures.value c.in_ok-words.ensures).0

pub column-column-requires-clause-fits : goal.column-column-requires-clause-fits
column-column-requires-clause-fits c =
    let here = (misfit-in IsFirst c.deref.result.now c.deref-in-Err.result.now _ c.args.text.now c.in-Err.misfit
    c.in-Err.ensures.fault c.deref.ensures.value c.deref-in-Err.ensures.value c.in_ok-words.ensures).1 in
    omega (arith, here)

pub returns-in-None-clause-fault : goal.returns-in-None-clause-fault
returns-in-None-clause-fault c =
    let here = misfit-in IsFirst c.deref.result.now c.deref-in-Err.result.now _ c.args.text.now c.in-Err.misfit
    c.in-Err.ensures.fault c.deref.ensures.value c.deref-in-Err.ensures.value c.in_ok-words.ensures in
    first-blamed c.args.number c.args.script c.args.text.now _ c.in-Err.misfit c.column-column.result c.first_reason-reason.result c.wrong.result
    c.in-None.is (sym c.is_empty.ensures ∙ c.if-is_empty.false) here.3 here.2 c.column-column.ensures c.first_reason-reason.ensures c.wrong.ensures

pub column-requires-clause-left : goal.column-requires-clause-left
column-requires-clause-left c =
    (misfit-in IsLater c.deref-in-Some.result.now c.deref-in-Err-of.result.now _ c.args.text.now c.in-Err-of.misfit
    c.in-Err-of.ensures.fault c.deref-in-Some.ensures.value c.deref-in-Err-of.ensures.value c.in_ok-words.ensures).0

pub column-requires-clause-fits : goal.column-requires-clause-fits
column-requires-clause-fits c =
    let here = (misfit-in IsLater c.deref-in-Some.result.now c.deref-in-Err-of.result.now _ c.args.text.now c.in-Err-of.misfit
    c.in-Err-of.ensures.fault c.deref-in-Some.ensures.value c.deref-in-Err-of.ensures.value c.in_ok-words.ensures).1 in
    omega (arith, here)

pub returns-clause-fault : goal.returns-clause-fault
returns-clause-fault c =
    let here = misfit-in IsLater c.deref-in-Some.result.now c.deref-in-Err-of.result.now _ c.args.text.now c.in-Err-of.misfit
    c.in-Err-of.ensures.fault c.deref-in-Some.ensures.value c.deref-in-Err-of.ensures.value c.in_ok-words.ensures in
    later-blamed c.args.number c.args.script c.in-Some.script c.args.text.now _ c.in-Err-of.misfit c.column.result c.wrong-in-Err-of.result
    c.in-Some.is (sym c.is_empty.ensures ∙ c.if-is_empty.false) here.3 here.2 c.column.ensures c.wrong-in-Err-of.ensures

pub returns-in_err-add-in-Ok-of-clause-fault : goal.returns-in_err-add-in-Ok-of-clause-fault
returns-in_err-add-in-Ok-of-clause-fault c =
    let wrong : Blames c.args.number (IsWrongFor (read_in c.args.script) c.args.text.now) c.in_err-add-in-Ok-of.field-0.0 =
    label-blamed c.args.number
    c.args.script c.in-Some.script c.args.text.now (texts_in c.deref-in-Ok-of.result.now) c.in-Ok-of.line c.in_err-add-in-Ok-of.field-0.0
    c.in-Some.is (sym c.is_empty.ensures ∙ c.if-is_empty.false) (ap (λ xs. texts_in xs) c.deref-in-Ok-of.ensures.value ∙ c.in_ok-words.ensures)
    (search rules) c.in-Ok-of.ensures.line c.in_err-add-in-Ok-of.ensures.fault in
    search rules
