use Rattle.std.proofs.Common.{codes}
use Rattle.span_script.specs.declared.reason.Reason.TheVariants.{UnknownWord}
use Rattle.span_script.proofs.Lines.{mute-expects, mute-same, mute-some, no-mute, Mute}
use Rattle.span_script.proofs.Misfits.{end-many, handed, misfit-at, misfit-behind, End}
use Rattle.span_script.proofs.line.mute.Goals as goal

pub returns-in_err-end-in-mute-clause-fault : goal.returns-in_err-end-in-mute-clause-fault
returns-in_err-end-in-mute-clause-fault c =
    handed _ _ _ _ c.from_residual.ensures.1 (misfit-behind End Mute (codes "mute") _ _ _ _ mute-same c.in-Ok.ensures.taken c.in-mute.is
    (end-many _ _ c.in_err-end-in-mute.ensures.some c.in_err-end-in-mute.ensures.many))

pub returns-in_default-word-clause-fault : goal.returns-in_default-word-clause-fault
returns-in_default-word-clause-fault c =
    misfit-at Mute UnknownWord _ _ _ _ c.in-Ok.ensures.taken mute-some (no-mute _ c.in_default-word.not-mute) mute-expects c.misfit_of.ensures
