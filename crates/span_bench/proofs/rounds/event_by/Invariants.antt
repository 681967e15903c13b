use Rattle.std.proofs.Common.{◌≡◌}
use Rattle.span_bench.specs.Rounds.{AreRegistered}
use Rattle.span_dispatch.specs.Serve.{stack_of}
use Rattle.span_bench.proofs.rounds.event_by.Given as goal

abbrev pub invariant-loop : goal.invariant-loop
invariant-loop g l = g.S.Subscriber.usable (stack_of l.dispatch) × AreRegistered l.dispatch l.table × (l.done ≡ l.counter)
