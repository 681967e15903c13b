use Rattle.span_client_tests.proofs.sender.a_thread_sends_all.Given as goal
use Rattle.span_sender.specs.Guard.{IsGuardOf}

abbrev pub invariant-loop : goal.invariant-loop
invariant-loop g l = IsGuardOf l.guard l.sender
