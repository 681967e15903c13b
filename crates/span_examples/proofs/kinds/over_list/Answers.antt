use Rattle.std.proofs.Common.{refl}
use Rattle.span_examples.proofs.Standing.{recorded, two_fit}
use Rattle.span_examples.proofs.kinds.over_list.Goals as goal

pub put_under-requires-clause-fit : goal.put_under-requires-clause-fit
put_under-requires-clause-fit c = two_fit _ (λ v. v.items) c.in_ok-layers.layers _ _ c.in_ok-layers.ensures.items refl refl

pub returns-clause-kept : goal.returns-clause-kept
returns-clause-kept c = recorded c.args.requests.now c.serve_new.result c.in_ok-stack.ensures.records c.serve_new.ensures.served
