use Rattle.std.proofs.Common.{arith, ap, ◌∙◌, ◌++◌, List, ℕ}
use Rattle.span_sender.specs.Body.{resource_spans}
use Rattle.span_sender.proofs.Listed.{all_listed}
use Rattle.span_sender.proofs.body.push_spans.Goals as goal

pub returns : goal.returns
returns c =
    let first = c.resource_spans.ensures ∙ ap resource_spans c.as_bytes.ensures.value in
    all_listed c.args.body.now.items c.extend_from_slice.new.self.items c.loop-span.body.items c.in-Some.first.now c.in-Some.rest.now
    c.args.spans.now c.loop-span.span-index c.in-Some.ensures.cases.0
    (c.in_ok-extend_from_slice.ensures.items ∙ ap (λ (l : List ℕ). c.args.body.now.items ++ l) first) c.loop-span.invariant (omega arith)
