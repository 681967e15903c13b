use Rattle.std.proofs.Common.{◌≡◌}
use Rattle.span_dispatch.specs.Serve.{stack_of}
use Rattle.span_bench.proofs.rounds.enter_and_exit.Given as goal

abbrev pub invariant-loop : goal.invariant-loop
invariant-loop g l = g.S.Subscriber.usable (stack_of l.dispatch) × (l.done ≡ l.counter)
