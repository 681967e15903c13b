use Rattle.std.proofs.Common.{◌∷◌, [], ℕ, List, IfOk, codes, string_bytes, subst, ap, ◌∙◌, ◌≡◌, false}
use Rattle.span_dispatch.specs.Recorder.{RecorderState}
use Rattle.span_dispatch.specs.declared.recorded.Recorded.{Recorded}
use Rattle.span_stacks.specs.Filtered.{layer_of}
use Rattle.span_stacks.specs.Layered.{outer_of}
use Rattle.span_script.proofs.Gives.{two_ok}
use Rattle.span_script.specs.Printed.{IsPrinted}
use Rattle.span_script.specs.Script.{lines_of}
use Rattle.span_script.proofs.script_stack.DirectivesScriptStack.text.Goals as goal

pub returns-clause-printed : goal.returns-clause-printed
returns-clause-printed c =
    let base = c.outer-base.ensures ∙ ap outer_of c.inner.ensures in
    let chosen = c.layer-chosen.ensures ∙ ap layer_of c.outer.ensures in
    subst
    (λ (xs : List (List ℕ × List Recorded)). IfOk c.text_of_two.result (λ s. IsPrinted (lines_of c.args.script.now) c.args.answers.now xs (string_bytes s)))
    (λ i. (codes "base", (base i).notices) ∷ (codes "chosen", (chosen i).notices) ∷ []) c.text_of_two.ensures.printed

pub returns-clause-whole : goal.returns-clause-whole
returns-clause-whole c =
    let base = c.outer-base.ensures ∙ ap outer_of c.inner.ensures in
    let chosen = c.layer-chosen.ensures ∙ ap layer_of c.outer.ensures in
    two_ok c.text_of_two.result _ _ _ c.text_of_two.ensures.inner c.text_of_two.ensures.outer
    (λ s x y. (subst (λ (r : RecorderState). r.failed ≡ false) base x, subst (λ (r : RecorderState). r.failed ≡ false) chosen y))
