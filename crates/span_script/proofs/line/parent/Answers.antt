use Rattle.std.proofs.Common.{codes}
use Rattle.span_script.specs.Script.{word_of, IsName}
use Rattle.span_script.specs.declared.reason.Reason.TheVariants.{NotLabel, UnknownWord}
use Rattle.span_script.proofs.Lines.{in-same, name-kind, no-parent, parent-expects, parent-some, root-same, NameRest, Parent}
use Rattle.span_script.proofs.Misfits.{end-many, handed, has-end, misfit-at, misfit-behind, then-first, then-on, End}
use Rattle.span_script.proofs.line.parent.Goals as goal

pub returns-in_err-end-in-root-clause-fault : goal.returns-in_err-end-in-root-clause-fault
returns-in_err-end-in-root-clause-fault c =
    handed _ _ _ _ c.from_residual.ensures.1 (misfit-behind End Parent (codes "root") _ _ _ _ root-same c.in-Ok.ensures.taken c.in-root.is
    (end-many _ _ c.in_err-end-in-root.ensures.some c.in_err-end-in-root.ensures.many))

pub returns-in_err-name-in-in-clause-fault : goal.returns-in_err-name-in-in-clause-fault
returns-in_err-name-in-in-clause-fault c =
    handed _ _ _ _ c.from_residual-in_err-name-in-in.ensures.1
    (misfit-behind NameRest Parent (codes "in") _ _ _ _ in-same c.in-Ok.ensures.taken c.in-in.is
    (then-first IsName word_of NotLabel _ _ _ name-kind has-end c.in_err-name-in-in.ensures.fault))

pub returns-in_err-end-in-in-clause-fault : goal.returns-in_err-end-in-in-clause-fault
returns-in_err-end-in-in-clause-fault c =
    handed _ _ _ _ c.from_residual-in_err-end-in-in.ensures.1
    (misfit-behind NameRest Parent (codes "in") _ _ _ _ in-same c.in-Ok.ensures.taken c.in-in.is
    (then-on IsName word_of _ c.in_ok-name-in-in.name _ _ _ c.in_ok-name-in-in.ensures.spelled c.in_ok-name-in-in.ensures.name
    (end-many _ _ c.in_err-end-in-in.ensures.some c.in_err-end-in-in.ensures.many)))

pub returns-in_default-word-clause-fault : goal.returns-in_default-word-clause-fault
returns-in_default-word-clause-fault c =
    misfit-at Parent UnknownWord _ _ _ _ c.in-Ok.ensures.taken parent-some (no-parent _ c.in_default-word.not-root c.in_default-word.not-in)
    parent-expects c.misfit_of.ensures
