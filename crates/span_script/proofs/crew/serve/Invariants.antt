use Rattle.std.proofs.Common.{◌≡◌, ◌≤◌, length, vec_len, vec_capacity}
use Rattle.span_script.specs.Stacks.{AreCalled}
use Rattle.span_script.proofs.crew.serve.Given as goal

abbrev pub invariant-loop-request : goal.invariant-loop-request
invariant-loop-request g l = record {
  workers : vec_len l.workers ≡ 10;
  calls : AreCalled l.request-index l.workers.items;
  len : vec_len l.answers ≡ l.request-index;
  room : length l.requests ≤ vec_capacity l.answers;
}
