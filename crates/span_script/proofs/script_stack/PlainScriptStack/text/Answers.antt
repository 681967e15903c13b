use Rattle.std.proofs.Common.{◌∷◌, [], IfOk, codes, string_bytes, subst, ◌≡◌, false}
use Rattle.span_dispatch.specs.Recorder.{RecorderState}
use Rattle.span_script.specs.Printed.{IsPrinted}
use Rattle.span_script.specs.Script.{lines_of}
use Rattle.span_script.proofs.script_stack.PlainScriptStack.text.Goals as goal

pub returns-clause-printed : goal.returns-clause-printed
returns-clause-printed c =
    subst (λ (base : RecorderState).
    IfOk c.text_of_one.result (λ s. IsPrinted (lines_of c.args.script.now) c.args.answers.now ((codes "base", base.notices) ∷ []) (string_bytes s)))
    c.outer.ensures c.text_of_one.ensures.printed

pub returns-clause-whole : goal.returns-clause-whole
returns-clause-whole c = subst (λ (base : RecorderState). IfOk c.text_of_one.result (λ s. base.failed ≡ false)) c.outer.ensures c.text_of_one.ensures.whole
