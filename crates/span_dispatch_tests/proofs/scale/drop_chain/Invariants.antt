use Rattle.span_dispatch.specs.Serve.{stack_of}
use Rattle.span_dispatch_tests.proofs.scale.drop_chain.Given as goal

abbrev pub invariant-loop-id : goal.invariant-loop-id
invariant-loop-id g l = g.S.Subscriber.usable (stack_of l.dispatch)
