use Rattle.span_registry.specs.Subscriber.{SameButExtensions}
use Rattle.span_bench.proofs.rounds.keep_each.Given as goal

abbrev pub invariant-loop-id : goal.invariant-loop-id
invariant-loop-id l = SameButExtensions l.fn.registry l.registry
