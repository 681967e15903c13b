-- How a run ends.
use Rattle.std.specs.Prelude.{ℕ}
use Rattle.span_memory.specs.declared.fault.Fault.{Fault}
use Rattle.span_memory.specs.declared.fault.Fault.TheVariants.{Line, Refused, Unprepared, Io, Memory}

-- the status that a run ends with
abbrev pub status_of : Fault → ℕ
status_of Line = 2
status_of (Refused error) = 1
status_of Unprepared = 1
status_of Io = 1
status_of Memory = 1
