use Rattle.std.proofs.Common.{codes}
use Rattle.span_script.specs.Script.{word_of, IsName}
use Rattle.span_script.specs.declared.reason.Reason.TheVariants.{NotLabel, UnknownWord}
use Rattle.span_script.proofs.Lines.{mute-some, name-kind, no-tail, tail-expects, tail-in-same, tail-mute-same, tail-root-same, tail-some, Mute, Tail}
use Rattle.span_script.proofs.Misfits.{end-many, handed, misfit-at, misfit-behind, then-first, then-on, End, Then}
use Rattle.span_script.proofs.line.tail.Goals as goal

pub returns-in_err-mute-in-root-clause-fault : goal.returns-in_err-mute-in-root-clause-fault
returns-in_err-mute-in-root-clause-fault c =
    handed _ _ _ _ c.from_residual.ensures.1 (misfit-behind Mute Tail (codes "root") _ _ _ _ tail-root-same c.in-Ok.ensures.taken c.in-root.is
    c.in_err-mute-in-root.ensures.fault)

pub returns-in_err-name-in-in-clause-fault : goal.returns-in_err-name-in-in-clause-fault
returns-in_err-name-in-in-clause-fault c =
    handed _ _ _ _ c.from_residual-in_err-name-in-in.ensures.1
    (misfit-behind (Then IsName word_of Mute) Tail (codes "in") _ _ _ _ tail-in-same c.in-Ok.ensures.taken c.in-in.is
    (then-first IsName word_of NotLabel _ _ _ name-kind mute-some c.in_err-name-in-in.ensures.fault))

pub returns-in_err-mute-in-in-clause-fault : goal.returns-in_err-mute-in-in-clause-fault
returns-in_err-mute-in-in-clause-fault c =
    handed _ _ _ _ c.from_residual-in_err-mute-in-in.ensures.1
    (misfit-behind (Then IsName word_of Mute) Tail (codes "in") _ _ _ _ tail-in-same c.in-Ok.ensures.taken c.in-in.is
    (then-on IsName word_of _ c.in_ok-name-in-in.name _ _ _ c.in_ok-name-in-in.ensures.spelled c.in_ok-name-in-in.ensures.name
    c.in_err-mute-in-in.ensures.fault))

pub returns-in_err-end-in-mute-clause-fault : goal.returns-in_err-end-in-mute-clause-fault
returns-in_err-end-in-mute-clause-fault c =
    handed _ _ _ _ c.from_residual-in_err-end-in-mute.ensures.1
    (misfit-behind End Tail (codes "mute") _ _ _ _ tail-mute-same c.in-Ok.ensures.taken c.in-mute.is
    (end-many _ _ c.in_err-end-in-mute.ensures.some c.in_err-end-in-mute.ensures.many))

pub returns-in_default-word-clause-fault : goal.returns-in_default-word-clause-fault
returns-in_default-word-clause-fault c =
    misfit-at Tail UnknownWord _ _ _ _ c.in-Ok.ensures.taken tail-some
    (no-tail _ c.in_default-word.not-root c.in_default-word.not-in c.in_default-word.not-mute) tail-expects c.misfit_of.ensures
