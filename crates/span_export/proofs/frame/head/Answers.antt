use Rattle.std.proofs.Common.{◌≡◌, ◌∙◌, ap}
use Rattle.std.proofs.lemmas.Result.{IfOk-weaker}
use Rattle.span_export.specs.Frame.{head_in, style, tag_text}
use Rattle.span_export.proofs.frame.head.Goals as goal

pub returns : goal.returns
returns c =
    let w = c.args.width in
    let h = c.args.height in
    let tag : c.as_str.result.now ≡ tag_text w h = c.as_str.ensures.value ∙ c.in_ok-tag.ensures in
    IfOk-weaker c.head_behind.result _ _ (λ s e. e ∙ ap (λ t. head_in t style w h) tag) c.head_behind.ensures
