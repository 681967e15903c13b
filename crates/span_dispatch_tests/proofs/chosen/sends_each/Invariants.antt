use Rattle.span_dispatch.specs.Serve.{stack_of}
use Rattle.span_dispatch_tests.proofs.chosen.sends_each.Given as goal

abbrev pub invariant-loop-number : goal.invariant-loop-number
invariant-loop-number g l = g.S.Subscriber.usable (stack_of l.dispatch)
