use Rattle.span_dispatch.specs.Serve.{stack_of}
use Rattle.span_memory.proofs.shown.write_all_of.Given as goal

abbrev pub invariant-loop-number : goal.invariant-loop-number
invariant-loop-number g l = g.S.Subscriber.usable (stack_of l.dispatch)
