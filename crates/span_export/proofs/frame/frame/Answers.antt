use Rattle.std.proofs.Common.{◌≡◌, ◌∙◌, ◌+◌, ◌++◌, ap, string_bytes}
use Rattle.span_export.specs.Frame.{axis_text, head_text, lanes_text, legend}
use Rattle.span_export.specs.declared.frame.TheConstants.{LEGEND}
use Rattle.span_export.proofs.frame.frame.Goals as goal

pub returns : goal.returns
returns c =
    let s = c.args.scale.now in
    let p = c.args.plan.now in
    let plot : c.from-width.result ≡ s.plot = c.from-width.ensures in
    let head = head_text (s.plot + 96) p.height in
    let begun : string_bytes c.push_str.new.self ≡ head ++ legend =
    c.in_ok-push_str.ensures.bytes ∙ ap (λ t. t ++ LEGEND.now) (c.in_ok-text.ensures ∙ ap (λ n. head_text (n + 96) p.height) plot) in
    let axis : c.as_str.result.now ≡ axis_text s p 9 = c.as_str.ensures.value ∙ c.in_ok-axis.ensures in
    let lanes : c.as_str-2.result.now ≡ lanes_text (s.plot + 96) p.tops =
    c.as_str-2.ensures.value ∙ c.in_ok-lanes.ensures ∙ ap (λ n. lanes_text (n + 96) p.tops) plot in
    let timed : string_bytes c.push_str-2.new.self ≡ (head ++ legend) ++ axis_text s p 9 =
    c.in_ok-push_str-2.ensures.bytes ∙ ap (λ t. t ++ c.as_str.result.now) begun ∙ ap (λ t. (head ++ legend) ++ t) axis in
    c.in_ok-push_str-3.ensures.bytes ∙ ap (λ t. t ++ c.as_str-2.result.now) timed ∙ ap (λ t. ((head ++ legend) ++ axis_text s p 9) ++ t) lanes
