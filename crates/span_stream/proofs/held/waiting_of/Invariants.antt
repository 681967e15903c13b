use Rattle.std.proofs.Common.{◌≡◌, drop}
use Rattle.serde_json.specs.Data.{Members}
use Rattle.span_stream.specs.Held.{with_waiting}
use Rattle.span_stream.specs.Values.{with_values}
use Rattle.span_stream.proofs.held.waiting_of.Given as goal

-- the values from here on
abbrev pub invariant-loop-place : goal.invariant-loop-place
invariant-loop-place l = (ms : Members) → with_waiting l.waiting.items ms ≡ with_values (drop l.place l.values) ms
