-- What the program prints for a script, and how it ends.
use Rattle.std.specs.Prelude.{◌≡◌, ◌⊎◌, ◌<◌, ℕ, List, ⊤, Option, Result, IfSome, IsErrAnd, length}
use Rattle.std.specs.Io.KnownBytes.{Appends}
use Rattle.std.specs.Str.Lossy.{utf8_lossy}
use Rattle.span_dispatch.specs.declared.request.Request.{Request}
use Rattle.span_store.specs.declared.limits.Limits.{Limits}
use Rattle.span_script.specs.declared.line.Line.{Line}
use Rattle.span_script.specs.Script.{AskFor, IsSpelled}
use Rattle.span_script.specs.Fault.{IsWrongLine}
use Rattle.span_script.specs.Printed.{AnyAnswers, PrintsServed, Serving}
use Rattle.span_script.specs.Stacks.{Serves}
use Rattle.span_script.specs.declared.run_fault.RunFault.{RunFault}
use Rattle.span_script.specs.declared.run_fault.RunFault.TheVariants.{Wrong, Io, Memory}
use Rattle.span_script.specs.declared.stack_name.StackName.{StackName}

-- the text spells a stack and lines, these ask for requests, and what comes of serving them so is
-- printed
pub record PrintsBy (Served : Serving) (text output : List ℕ) : Type 0 where
  pub stack : StackName
  pub lines : List Line
  pub requests : List Request
  pub spelled : IsSpelled text stack lines
  pub asked : AskFor lines requests
  pub printed : PrintsServed Served stack lines requests output

-- a text prints this, where the stack that it names serves it on a registry with these limits
abbrev pub Prints : Limits → List ℕ → List ℕ → Type 0
Prints limits text output = PrintsBy (Serves limits) text output

-- a text prints this, where workers share the stack: by some answers, one for each request
abbrev pub PrintsShared : List ℕ → List ℕ → Type 0
PrintsShared text output = PrintsBy AnyAnswers text output

-- a fault of a run that has this text: its first line that is wrong, or want of memory
abbrev pub IsRunFault : List ℕ → RunFault → Type 0
IsRunFault text (Wrong w) = IsWrongLine text w
IsRunFault text Io = ⊥
IsRunFault text Memory = ⊤

-- the fault is a line that is wrong
abbrev pub BlamesLine : RunFault → Type 0
BlamesLine (Wrong w) = ⊤
BlamesLine fault = ⊥

-- Below: what is printed for a text, the bytes that a reader gives, if they are known, and a writer
-- before and after.

-- what is printed for the bytes is written behind what was there
abbrev pub Writes : {W : Type 0} → (List ℕ → List ℕ → Type 0) → Option (List ℕ)
    → (W → Option (List ℕ)) → W → W → Type 0
Writes prints given contents old new =
    IfSome given (λ bytes. (output : List ℕ)
    × (prints (utf8_lossy bytes) output × Appends (contents old) (contents new) output))

-- a line that is said to be wrong is the first of the bytes that is
abbrev pub BlamesFirstWrong : Option (List ℕ) → RunFault → Type 0
BlamesFirstWrong given fault =
    BlamesLine fault → IfSome given (λ bytes. IsRunFault (utf8_lossy bytes) fault)

-- nothing is written, unless it is writing that failed: then the bytes are a script
abbrev pub IsUnwritten : {W : Type 0} → (List ℕ → List ℕ → Type 0) → Option (List ℕ) → W → W
    → RunFault → Type 0
IsUnwritten prints given old new fault =
    (new ≡ old) ⊎ ((fault ≡ Io)
    × IfSome given (λ bytes. (output : List ℕ) × prints (utf8_lossy bytes) output))

-- more than 1048576 bytes are refused, with no line blamed and nothing written
abbrev pub RefusesLong : {A W : Type 0} → Option (List ℕ) → Result A RunFault → W → W → Type 0
RefusesLong given result old new =
    IfSome given (λ bytes. 1048576 < length bytes
    → IsErrAnd result (λ fault. ¬ (BlamesLine fault)) × (new ≡ old))
