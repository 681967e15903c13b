use Rattle.span_script.proofs.Lines.{reading}
use Rattle.span_script.proofs.Misfits.{handed}
use Rattle.span_script.proofs.line.event.Goals as goal

pub returns-in_err-lane-clause-fault : goal.returns-in_err-lane-clause-fault
returns-in_err-lane-clause-fault c = handed _ _ _ c.in_err-lane.field-0.0 c.from_residual.ensures.1
    (search (reading, c.in_err-lane.ensures) depth 9)

pub returns-in_err-site-clause-fault : goal.returns-in_err-site-clause-fault
returns-in_err-site-clause-fault c = handed _ _ _ c.in_err-site.field-0.0 c.from_residual-in_err-site.ensures.1
    (search (reading, c.in_ok-lane.ensures, c.in_err-site.ensures) depth 9)

pub returns-in_err-parent-clause-fault : goal.returns-in_err-parent-clause-fault
returns-in_err-parent-clause-fault c = handed _ _ _ c.in_err-parent.field-0.0 c.from_residual-in_err-parent.ensures.1
    (search (reading, c.in_ok-lane.ensures, c.in_ok-site.ensures, c.in_err-parent.ensures) depth 9)
