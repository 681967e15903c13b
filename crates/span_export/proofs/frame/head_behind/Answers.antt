use Rattle.std.proofs.Common.{◌≡◌, ◌∙◌, ap, append_assoc, string_bytes}
use Rattle.std.proofs.lemmas.Result.{IfOk-weaker}
use Rattle.span_export.proofs.Style.{style_text}
use Rattle.span_export.specs.Frame.{head_in}
use Rattle.span_export.specs.declared.frame.TheConstants.{STYLE}
use Rattle.span_export.proofs.frame.head_behind.Goals as goal

pub returns : goal.returns
returns c =
    let t = c.args.tag.now in
    let w = c.args.width in
    let h = c.args.height in
    IfOk-weaker c.format.result
    _ _
    (λ s e. (let is : string_bytes s ≡ head_in t STYLE.now w h = simp append_assoc e in is) ∙ ap (λ look. head_in t look w h) style_text) c.format.ensures.ok
