-- Which line of a text is the first that is wrong, and why.
use Rattle.std.specs.Prelude.{◌≡◌, ◌⊎◌, ℕ, ◌+◌, List, [], ⊤, Option, IsSomeAnd, IfSome, Err, filter, take, slice_get}
use Rattle.span_script.specs.Misfit.{column_after}
use Rattle.span_script.specs.Reason.{IsLineFault, IsLineFaultIn, IsReason, IsTaken}
use Rattle.span_script.specs.Script.{cut, is_full, words_in, words_of_texts, AskFor, Asks, CanFollow, HoldsOfNone, IsWrongAfter}
use Rattle.span_script.specs.declared.fault.ScriptFault.{ScriptFault}
use Rattle.span_script.specs.declared.fault.ScriptFault.TheVariants as fault
use Rattle.span_script.specs.declared.fault.WrongLine.{WrongLine}
use Rattle.span_script.specs.declared.line.Line.{Line}
use Rattle.span_script.specs.declared.reason.Reason.{Reason}
use Rattle.span_script.specs.declared.reason.Reason.TheVariants.{DeclaredBefore, Directive, NoStack, Undeclared}
use Rattle.span_script.specs.declared.stack_name.StackName.{StackName}
use Rattle.span_script.specs.declared.unasked.Unasked.{Unasked}
use Rattle.span_script.specs.declared.unasked.Unasked.TheVariants as unasked
use Rattle.span_script.specs.declared.unasked.Unasked.TheVariants.{At}
use Rattle.span_dispatch.specs.declared.request.Request.{Request}
use Rattle.span_targets.specs.EnvText.{env_reading}
use Rattle.span_targets.specs.declared.error.WrongDirective.{WrongDirective}

-- the text can't follow what was read, for this reason, at this column
abbrev pub IsWrongFor : Option (StackName × List Line) → List ℕ → ℕ → Reason → Type 0
IsWrongFor before text column reason = IsWrongAfter before text × IsReason before text column reason

-- the text at this place can't follow the ones before it, which are read, for this reason, at this
-- column
pub record IsWrongAt (texts : List (List ℕ)) (place column : ℕ) (reason : Reason) : Type 0 where
  pub before : Option (StackName × List Line)
  pub asked : IfSome before (λ read. (requests : List Request) × AskFor read.1 requests)
  pub spelled : words_in before ≡ words_of_texts (take place texts)
  pub wrong : IsSomeAnd (slice_get texts place) (λ text. IsWrongFor before text column reason)

-- the first line of a text that is wrong, and why; where all are empty, the first, since no stack
-- is named
abbrev pub IsWrongLine : List ℕ → WrongLine → Type 0
IsWrongLine text w =
    ((w.line ≡ 1) × (w.column ≡ 1) × (w.reason ≡ NoStack) × (filter is_full (cut 10 text) ≡ []))
    ⊎ ((place : ℕ) × ((w.line ≡ place + 1) × IsWrongAt (cut 10 text) place w.column w.reason))

-- what ends the reading of a script: its first line that is wrong, or want of memory
abbrev pub IsScriptFault : List ℕ → ScriptFault → Type 0
IsScriptFault text (fault.Wrong w) = IsWrongLine text w
IsScriptFault text fault.Memory = ⊤

-- memory was refused, or the line of this number is wrong, for that reason at that column
abbrev pub Blames : ℕ → (ℕ → Reason → Type 0) → ScriptFault → Type 0
Blames n Why (fault.Wrong w) = (w.line ≡ n) × Why w.column w.reason
Blames n Why fault.Memory = ⊤

-- the line of these words can't follow these lines, for its labels or its directives
abbrev pub IsLineFaultAt : List Line → Line → List (List ℕ) → ℕ → Reason → Type 0
IsLineFaultAt before l words column reason =
    ¬ (CanFollow before l) × IsLineFaultIn before l words column reason

-- the word at a place names what no earlier line declares
abbrev pub undeclared_at : ℕ → Unasked
undeclared_at place = At place Undeclared

-- why a text is not read: memory was refused, or, where it is the third word of a line, of its
-- directives this is the first that is wrong
abbrev pub IsUnread : List ℕ → Unasked → Type 0
IsUnread text (At place reason) =
    (place ≡ 2)
    × ((directive : WrongDirective)
    × (reason ≡ Directive directive) × (env_reading text ≡ Err directive))
IsUnread text unasked.Memory = ⊤

-- why a line asks for no request after these: memory was refused, or it can't follow them, for this
-- reason, at this one of its words
abbrev pub IsUnasked : List Line → Line → Unasked → Type 0
IsUnasked before l (At place reason) =
    HoldsOfNone (Asks before l) × IsLineFault before l place reason
IsUnasked before l unasked.Memory = ⊤

-- the label that the line declares, as its fourth word, is taken
abbrev pub IsTakenAt : List Line → Line → List (List ℕ) → ℕ → Reason → Type 0
IsTakenAt before l words column reason =
    (reason ≡ DeclaredBefore) × IsTaken before l × (column ≡ column_after (take 3 words))
