use Rattle.span_script.proofs.Lines.{reading}
use Rattle.span_script.proofs.Misfits.{handed}
use Rattle.span_script.proofs.line.clone.Goals as goal

pub returns-in_err-name-clause-fault : goal.returns-in_err-name-clause-fault
returns-in_err-name-clause-fault c = handed _ _ _ c.in_err-name.field-0.0 c.from_residual.ensures.1
    (search (reading, c.in_err-name.ensures) depth 9)

pub returns-in_err-end-clause-fault : goal.returns-in_err-end-clause-fault
returns-in_err-end-clause-fault c = handed _ _ _ c.in_err-end.field-0.0 c.from_residual-in_err-end.ensures.1
    (search (reading, c.in_ok-name.ensures, c.in_err-end.ensures) depth 9)
