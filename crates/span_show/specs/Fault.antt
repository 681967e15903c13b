-- Why nothing is shown.
use Rattle.std.specs.Prelude.{ℕ, ⊤, Bool, true, false, List, Option, IfSome}
use Rattle.std.specs.Str.Lossy.{utf8_lossy}
use Rattle.span_script.specs.Fault.{IsWrongLine}
use Rattle.span_script.specs.declared.fault.ReadFault.TheVariants as read
use Rattle.span_script.specs.declared.fault.ReadFault.{ReadFault}
use Rattle.span_script.specs.declared.fault.ScriptFault.TheVariants as script
use Rattle.span_script.specs.declared.fault.ScriptFault.{ScriptFault}
use Rattle.span_show.specs.declared.fault.ShowFault.TheVariants.{Input, Lost, Memory, Output, TooLong, Unopened, Usage, Wrong}
use Rattle.span_show.specs.declared.fault.ShowFault.{ShowFault}
use Rattle.span_show.specs.declared.format.Format.TheVariants.{Lines, Points, Tree}
use Rattle.span_show.specs.declared.format.Format.{Format}

-- a wrong line ends with 2, all else with 1
abbrev pub status_of : ShowFault → ℕ
status_of (Wrong w) = 2
status_of fault = 1

-- the script's file can't be opened or read, or is too long
abbrev pub is_of_file : ShowFault → Bool
is_of_file Unopened = true
is_of_file TooLong = true
is_of_file Input = true
is_of_file fault = false

-- the fault where a script can't be read
abbrev pub read_fault : ReadFault → ShowFault
read_fault read.Io = Input
read_fault read.Memory = Memory

-- the fault where a script can't be parsed
abbrev pub script_fault : ScriptFault → ShowFault
script_fault (script.Wrong w) = Wrong w
script_fault script.Memory = Memory

-- why requests aren't shown: memory was refused; or lines were lost, or an export can't be written
abbrev pub IsFaultOfRequests : Format → ShowFault → Type 0
IsFaultOfRequests format Memory = ⊤
IsFaultOfRequests Tree Lost = ⊤
IsFaultOfRequests Lines Lost = ⊤
IsFaultOfRequests (Points format) Output = ⊤
IsFaultOfRequests format fault = ⊥

-- why a text isn't shown in a format: a line that is said to be wrong is the first that is, and
-- wrong for that reason; else the requests aren't shown
abbrev pub IsFault : Format → List ℕ → ShowFault → Type 0
IsFault format text (Wrong w) = IsWrongLine text w
IsFault format text fault = IsFaultOfRequests format fault

-- why showing the bytes that a reader gives fails, if they are known: they can't be read, or their
-- text isn't shown
abbrev pub IsFaultOf : Format → Option (List ℕ) → ShowFault → Type 0
IsFaultOf format given Input = ⊤
IsFaultOf format given fault = IfSome given (λ bytes. IsFault format (utf8_lossy bytes) fault)
