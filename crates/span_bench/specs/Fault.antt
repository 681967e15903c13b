-- How a run of the workloads ends.
use Rattle.std.specs.Prelude.{ℕ}
use Rattle.span_bench.specs.declared.fault.Fault.{Fault}
use Rattle.span_bench.specs.declared.fault.Fault.TheVariants.{Line, Refused, Undone, NoThread, Io, Memory}

-- the status that a run ends with
abbrev pub status_of : Fault → ℕ
status_of Line = 2
status_of (Refused error) = 1
status_of Undone = 1
status_of NoThread = 1
status_of Io = 1
status_of Memory = 1
