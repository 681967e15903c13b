-- How a receiver counts its calls.
use Rattle.std.specs.Prelude.{◌+◌, ℕ, Result, Ok, Err, min}
use Rattle.span_core.specs.declared.error.TraceError.{TraceError}
use Rattle.span_tracer.specs.Receiver.{last_count}

-- how many calls were accepted, after one more with this result
abbrev pub count_after : {A : Type 0} → Result A TraceError → ℕ → ℕ
count_after (Ok a) calls = min (calls + 1) last_count
count_after (Err e) calls = calls
