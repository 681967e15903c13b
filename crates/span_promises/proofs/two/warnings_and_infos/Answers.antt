use Rattle.span_promises.proofs.Sentence.{keeps_each, where_served}
use Rattle.span_promises.proofs.two.warnings_and_infos.Goals as goal

pub returns-clause-kept : goal.returns-clause-kept
returns-clause-kept c =
    where_served c.serve_at_first.result c.serve_at_first.ensures.served
    (λ done h. keeps_each c.a_close_is_told_to_whom_the_span_was.ensures c.closes_once.ensures c.callsite-request.result c.callsite-late.result _ _ done
    c.callsite-request.ensures.level c.callsite-late.ensures.level c.callsite-late.ensures.number h)
