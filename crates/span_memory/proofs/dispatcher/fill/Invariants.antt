use Rattle.span_dispatch.specs.Serve.{stack_of}
use Rattle.span_memory.proofs.dispatcher.fill.Given as goal

abbrev pub invariant-loop : goal.invariant-loop
invariant-loop g l = g.S.Subscriber.usable (stack_of l.dispatch)
