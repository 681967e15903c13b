-- Why a line is wrong, and where.
use Rattle.std.specs.Prelude.{◌≡◌, ◌⊎◌, ℕ, ◌+◌, List, [], ◌∷◌, ◌==◌, if◌then◌else◌, Option, Some, None, Err, IsSomeAnd, take}
use Rattle.span_script.specs.Misfit.{column_after, column_of, IsMisfit}
use Rattle.span_script.specs.Script.{cut, declared_label, words_of, Asks, DeclaresAt, HoldsOfNone, IsFirst, IsLater, IsLine, Means}
use Rattle.span_script.specs.declared.misfit.Misfit.{Misfit}
use Rattle.span_script.specs.declared.line.Line.{Line}
use Rattle.span_script.specs.declared.line.Line.TheVariants.{New, Event, Enter, Exit, Record, Follows, Clone, Drop, Enabled, Current, Level, Targets}
use Rattle.span_script.specs.declared.line.Name.{Name}
use Rattle.span_script.specs.declared.line.ParentName.{ParentName}
use Rattle.span_script.specs.declared.line.ParentName.TheVariants.{Contextual, Root, In}
use Rattle.span_script.specs.declared.reason.Reason.{Reason}
use Rattle.span_script.specs.declared.reason.Reason.TheVariants.{NoStack, UnknownStack, UnknownWord, Undeclared, DeclaredBefore, Directive}
use Rattle.span_script.specs.declared.stack_name.StackName.{StackName}
use Rattle.span_dispatch.specs.declared.request.Request.{Request}
use Rattle.span_dispatch.specs.declared.request.Which.{Which}
use Rattle.span_targets.specs.EnvText.{env_reading}
use Rattle.span_targets.specs.declared.error.WrongDirective.{WrongDirective}

-- words are not right: the column at which they are wrong, and why
abbrev pub IsMisfitAt : (List (List ℕ) → Type 0) → List (List ℕ) → ℕ → Reason → Type 0
IsMisfitAt IsRight words column reason =
    (m : Misfit) × IsMisfit IsRight words m × (column ≡ column_of words m) × (reason ≡ m.reason)

-- a reason as a first line's, which has a wrong word only where the name of a stack is wrong, or
-- `stack`
abbrev pub first_reason : ℕ → Reason → Reason
first_reason column UnknownWord = if column == 1 then NoStack else UnknownStack
first_reason column reason = reason

-- the words of a first line are no right ones
abbrev pub IsFirstMisfit : List (List ℕ) → ℕ → Reason → Type 0
IsFirstMisfit words column reason =
    (why : Reason) × IsMisfitAt IsFirst words column why × (reason ≡ first_reason column why)

-- the names that a parent's words have, and their places, where the first is at this one
abbrev pub names_of_parent : ℕ → ParentName → List (ℕ × Name)
names_of_parent place Contextual = []
names_of_parent place Root = []
names_of_parent place (In name) = (place + 1, name) ∷ []

-- the names in a line's words, and their places
abbrev pub names_of : Line → List (ℕ × Name)
names_of (New lane site label parent) = names_of_parent 4 parent
names_of (Event lane site parent mute) = names_of_parent 3 parent
names_of (Enter lane name) = (2, name) ∷ []
names_of (Exit lane name) = (2, name) ∷ []
names_of (Record lane name) = (2, name) ∷ []
names_of (Follows lane name other) = (2, name) ∷ (3, other) ∷ []
names_of (Clone name) = (1, name) ∷ []
names_of (Drop lane name) = (2, name) ∷ []
names_of (Enabled lane site) = []
names_of (Current lane) = []
names_of (Level number level) = []
names_of (Targets number text) = []

-- the name at this place is the first that no earlier line declares
abbrev pub IsUndeclared : List Line → List (ℕ × Name) → ℕ → Type 0
IsUndeclared before [] place = ⊥
IsUndeclared before (name ∷ names) place =
    ((name.0 ≡ place) × HoldsOfNone (Means before name.1))
    ⊎ (((which : Which) × Means before name.1 which) × IsUndeclared before names place)

-- an earlier line declares the label that this one declares
abbrev pub IsTaken : List Line → Line → Type 0
IsTaken before l =
    IsSomeAnd (declared_label l) (λ label. (place : ℕ) × DeclaresAt before place label)

-- a line has a text, and of its directives this is the first that is wrong
abbrev pub HasWrong : Line → WrongDirective → Type 0
HasWrong (Targets number text) directive = env_reading text.now ≡ Err directive
HasWrong l directive = ⊥

-- why a line can't follow these, and at which of its words: it has a name that is not declared; or
-- it has none, and declares, as its fourth word, a label that is taken; or its third word is a text
-- with a directive that is wrong
abbrev pub IsLineFault : List Line → Line → ℕ → Reason → Type 0
IsLineFault before l place Undeclared = IsUndeclared before (names_of l) place
IsLineFault before l place DeclaredBefore =
    (place ≡ 3) × ((r : Request) × Asks before l r) × IsTaken before l
IsLineFault before l place (Directive directive) = (place ≡ 2) × HasWrong l directive
IsLineFault before l place reason = ⊥

-- why a line of these words can't follow the lines before, and the column of the word that is at
-- fault
abbrev pub IsLineFaultIn : List Line → Line → List (List ℕ) → ℕ → Reason → Type 0
IsLineFaultIn before l words column reason =
    (place : ℕ) × (IsLineFault before l place reason × (column ≡ column_after (take place words)))

-- the words are a line, and that is why it can't follow these
abbrev pub IsLineFaultOf : List Line → List (List ℕ) → ℕ → Reason → Type 0
IsLineFaultOf before words column reason =
    (l : Line) × (IsLine l × (words ≡ words_of l) × IsLineFaultIn before l words column reason)

-- why a text can't follow what was read, and at which column: its words are no line, or its labels
-- or its directives are wrong
abbrev pub IsReason : Option (StackName × List Line) → List ℕ → ℕ → Reason → Type 0
IsReason None text column reason = IsFirstMisfit (cut 32 text) column reason
IsReason (Some read) text column reason =
    IsMisfitAt IsLater (cut 32 text) column reason
    ⊎ IsLineFaultOf read.1 (cut 32 text) column reason
