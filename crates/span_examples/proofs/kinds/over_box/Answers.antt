use Rattle.std.proofs.Common.{refl}
use Rattle.span_examples.proofs.Standing.{open_fit, recorded}
use Rattle.span_examples.proofs.kinds.over_box.Goals as goal

pub put_under-requires-clause-fit : goal.put_under-requires-clause-fit
put_under-requires-clause-fit c = open_fit _ refl

pub returns-clause-kept : goal.returns-clause-kept
returns-clause-kept c = recorded c.args.requests.now c.serve_new.result c.in_ok-stack.ensures.records c.serve_new.ensures.served
