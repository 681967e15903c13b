use Rattle.std.proofs.Common.{codes}
use Rattle.std.specs.Prelude.{⊤}
use Rattle.span_script.specs.Script.{stack_word, IsFirst}
use Rattle.span_script.specs.declared.reason.Reason.TheVariants.{UnknownWord}
use Rattle.span_script.proofs.Lines.{first-expects, first-some, first-same, no-empty-first, no-first, stack-kind, FirstRest}
use Rattle.span_script.proofs.Misfits.{end-many, handed, has-end, misfit-at, misfit-behind, misfit-few, then-first, then-on}
use Rattle.span_script.proofs.stack_name.StackName.of.Goals as goal

pub returns-in_err-verb-clause-fault : goal.returns-in_err-verb-clause-fault
returns-in_err-verb-clause-fault c =
    handed _ _ _ _ c.from_residual.ensures.1
    (misfit-few IsFirst UnknownWord _ _ c.in_err-verb.ensures.none first-some no-empty-first first-expects c.in_err-verb.ensures.few)

pub returns-in_err-stack-in-stack-clause-fault : goal.returns-in_err-stack-in-stack-clause-fault
returns-in_err-stack-in-stack-clause-fault c =
    handed _ _ _ _ c.from_residual-in_err-stack-in-stack.ensures.1
    (misfit-behind FirstRest IsFirst (codes "stack") _ _ _ _ first-same c.in_ok-verb.ensures.taken c.in-stack.is
    (then-first (λ _. ⊤) stack_word UnknownWord _ _ _ stack-kind has-end c.in_err-stack-in-stack.ensures.fault))

pub returns-in_err-end-in-stack-clause-fault : goal.returns-in_err-end-in-stack-clause-fault
returns-in_err-end-in-stack-clause-fault c =
    handed _ _ _ _ c.from_residual-in_err-end-in-stack.ensures.1
    (misfit-behind FirstRest IsFirst (codes "stack") _ _ _ _ first-same c.in_ok-verb.ensures.taken c.in-stack.is
    (then-on (λ _. ⊤) stack_word _ c.in_ok-stack-in-stack.stack _ _ _ c.in_ok-stack-in-stack.ensures.spelled tt
    (end-many _ _ c.in_err-end-in-stack.ensures.some c.in_err-end-in-stack.ensures.many)))

pub returns-in_default-clause-fault : goal.returns-in_default-clause-fault
returns-in_default-clause-fault c =
    misfit-at IsFirst UnknownWord _ _ _ _ c.in_ok-verb.ensures.taken first-some (no-first _ c.in_default.not-stack) first-expects c.misfit_of.ensures
