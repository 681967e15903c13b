use Rattle.std.proofs.Common.{rules, ◌≡◌, ◌∙◌, string_bytes}
use Rattle.span_error.proofs.Keeping.{text_place}
use Rattle.span_error.specs.Trace.{around_text}
use Rattle.span_error.proofs.trace.SpanTrace.capture.Goals as goal

pub returns-in-Ok-clause-text : goal.returns-in-Ok-clause-text
returns-in-Ok-clause-text g c =
    let served = c.in-Ok.ensures in
    let gave = served.4 in
    let told : string_bytes c.in-Ok.text ≡ around_text text_place g.S.LookupSpan.registry gave.0.now c.lane-lane.result = search rules in
    (served.0, served.1, served.2, served.3, told ∙ (λ i. around_text text_place g.S.LookupSpan.registry (gave.2 i) (c.lane-lane.ensures i)))
