use Rattle.span_promises.proofs.Sentence.{closes_children_first, closes_once, drops_nothing_wanted, where_served}
use Rattle.span_promises.proofs.two.record_two.Goals as goal

pub returns-clause-wanted : goal.returns-clause-wanted
returns-clause-wanted c = where_served c.serve_at_first.result c.serve_at_first.ensures.served
    (λ done h. drops_nothing_wanted c.args.outer c.args.inner c.args.requests.now done h)

pub returns-clause-once : goal.returns-clause-once
returns-clause-once c = where_served c.serve_at_first.result c.serve_at_first.ensures.served
    (λ done h. closes_once c.args.outer c.args.inner c.args.requests.now done h)

pub returns-clause-children_first : goal.returns-clause-children_first
returns-clause-children_first c = where_served c.serve_at_first.result c.serve_at_first.ensures.served
    (λ done h. closes_children_first c.args.outer c.args.inner c.args.requests.now done h)
