use Rattle.std.proofs.Common.{of_calls, rules}
use Rattle.std.proofs.lemmas.Fn.{always_returns_same}
use Rattle.span_targets.proofs.order.search.Goals as goal
use Rattle.span_targets.specs.private.Order.{order_to}

pub returns-clause-place : goal.returns-clause-place
returns-clause-place c =
    c.binary_search_by.ensures.position (order_to c.args.target.now) (always_returns_same _ _ _ (λ a r f k. search (rules, of_calls)))
