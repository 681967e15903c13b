use Rattle.std.proofs.Common.{◌∷◌, [], ℕ, List, IfOk, codes, string_bytes, subst, ap, ◌∙◌, ◌≡◌, false}
use Rattle.span_dispatch.specs.Recorder.{RecorderState}
use Rattle.span_dispatch.specs.declared.recorded.Recorded.{Recorded}
use Rattle.span_stacks.specs.Filtered.{layer_of}
use Rattle.span_stacks.specs.Layered.{inner_of, outer_of}
use Rattle.span_script.proofs.Gives.{two_ok}
use Rattle.span_script.specs.Printed.{IsPrinted}
use Rattle.span_script.specs.Script.{lines_of}
use Rattle.span_script.proofs.script_stack.PairScriptStack.text.Goals as goal

pub returns-clause-printed : goal.returns-clause-printed
returns-clause-printed c =
    let both = c.outer-both.ensures in
    let a = c.layer-a.ensures ∙ ap layer_of (c.inner.ensures ∙ ap inner_of both) in
    let b = c.layer-b.ensures ∙ ap layer_of (c.outer.ensures ∙ ap outer_of both) in
    subst
    (λ (xs : List (List ℕ × List Recorded)). IfOk c.text_of_two.result (λ s. IsPrinted (lines_of c.args.script.now) c.args.answers.now xs (string_bytes s)))
    (λ i. (codes "a", (a i).notices) ∷ (codes "b", (b i).notices) ∷ []) c.text_of_two.ensures.printed

pub returns-clause-whole : goal.returns-clause-whole
returns-clause-whole c =
    let both = c.outer-both.ensures in
    let a = c.layer-a.ensures ∙ ap layer_of (c.inner.ensures ∙ ap inner_of both) in
    let b = c.layer-b.ensures ∙ ap layer_of (c.outer.ensures ∙ ap outer_of both) in
    two_ok c.text_of_two.result _ _ _ c.text_of_two.ensures.inner c.text_of_two.ensures.outer
    (λ s x y. (subst (λ (r : RecorderState). r.failed ≡ false) a x, subst (λ (r : RecorderState). r.failed ≡ false) b y))
