use Rattle.std.proofs.Common.{◌+◌, ◌∙◌, ap, arith, length}
use Rattle.span_script.proofs.crew.serve.Goals as goal

pub ask_by_lane-answer-requires-clause-calls : goal.ask_by_lane-answer-requires-clause-calls
ask_by_lane-answer-requires-clause-calls g c = λ i w is.
    let h = c.loop-request.invariant in
    let most = h.calls i w is in
    let n = ap length c.deref.ensures.value in
    let ok = c.loop-request.answers.ok.0 in
    let len = h.len in
    omega arith

pub loop-request-preserved : goal.loop-request-preserved
loop-request-preserved g c =
    let h = c.loop-request.invariant in
    let n = ap length c.deref.ensures.value in
    let ok = c.loop-request.answers.ok.0 in
    let len = h.len in
    record {
      workers = c.ask_by_lane-answer.ensures.workers ∙ h.workers;
      calls = λ i w is. let most = c.ask_by_lane-answer.ensures.calls i w is in omega arith;
      len = c.push_reserved.ensures.len ∙ ap (λ k. k + 1) h.len;
      room = let e = c.push_reserved.ensures.capacity in let r = h.room in omega arith;
    }
