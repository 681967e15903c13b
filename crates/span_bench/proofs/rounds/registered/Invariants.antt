use Rattle.span_bench.specs.Rounds.{AreRegistered}
use Rattle.span_dispatch.specs.Serve.{stack_of}
use Rattle.span_bench.proofs.rounds.registered.Given as goal

abbrev pub invariant-loop-metadata : goal.invariant-loop-metadata
invariant-loop-metadata g l = g.S.Subscriber.usable (stack_of l.dispatch) × AreRegistered l.dispatch l.table
