-- Why a run ends early.
use Rattle.std.specs.Prelude.{ℕ}
use Rattle.span_script.specs.declared.run_fault.RunFault.{RunFault}
use Rattle.span_script.specs.declared.run_fault.RunFault.TheVariants.{Wrong, Io, Memory}
use Rattle.span_script.specs.declared.fault.ReadFault.{ReadFault}
use Rattle.span_script.specs.declared.fault.ReadFault.TheVariants as read
use Rattle.span_script.specs.declared.fault.ScriptFault.{ScriptFault}
use Rattle.span_script.specs.declared.fault.ScriptFault.TheVariants as script

-- a wrong line ends with 2, all else with 1
abbrev pub status_of : RunFault → ℕ
status_of (Wrong w) = 2
status_of fault = 1

-- the fault of a run whose script can't be read
abbrev pub read_fault : ReadFault → RunFault
read_fault read.Io = Io
read_fault read.Memory = Memory

-- the fault of a run whose script is wrong
abbrev pub script_fault : ScriptFault → RunFault
script_fault (script.Wrong w) = Wrong w
script_fault script.Memory = Memory
