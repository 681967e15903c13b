use Rattle.span_script.proofs.Lines.{reading}
use Rattle.span_script.proofs.Misfits.{handed}
use Rattle.span_script.proofs.line.set_targets.Goals as goal

pub returns-in_err-number-clause-fault : goal.returns-in_err-number-clause-fault
returns-in_err-number-clause-fault c = handed _ _ _ c.in_err-number.field-0.0 c.from_residual.ensures.1
    (search (reading, c.in_err-number.ensures) depth 9)

pub returns-in_err-text-clause-fault : goal.returns-in_err-text-clause-fault
returns-in_err-text-clause-fault c = handed _ _ _ c.in_err-text.field-0.0 c.from_residual-in_err-text.ensures.1
    (search (reading, c.in_ok-number.ensures, c.in_err-text.ensures) depth 9)

pub returns-in_err-end-clause-fault : goal.returns-in_err-end-clause-fault
returns-in_err-end-clause-fault c = handed _ _ _ c.in_err-end.field-0.0 c.from_residual-in_err-end.ensures.1
    (search (reading, c.in_ok-number.ensures, c.in_ok-text.ensures, c.in_err-end.ensures) depth 9)
