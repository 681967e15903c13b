-- What a text says of targets and spans.
use Rattle.std.specs.Prelude.{◌≡◌, ⊤, ◌+◌, ◌++◌, ℕ, List, [], ◌∷◌, length, ◌==◌, nat_lt, if◌then◌else◌, map, Bool, ◌||◌}
use Rattle.std.specs.Prelude.{Option, None, Some, Result, Ok, Err}
use Rattle.std.specs.List.{after_first, before_first}
use Rattle.span_core.specs.declared.level.LevelFilter.{LevelFilter}
use Rattle.span_core.specs.declared.level.TheConstants.LevelFilter.{TRACE}
use Rattle.span_targets.specs.EnvFilter.{level_within, name_within, spans_of, target_within, targets_in}
use Rattle.span_targets.specs.Names.{Names, naming, nothing}
use Rattle.span_targets.specs.Targets.{names_of}
use Rattle.span_targets.specs.Text.{Meaning, directives_in, has, level_named, meaning}
use Rattle.span_targets.specs.declared.env_filter.EnvFilter.{EnvFilter}
use Rattle.span_targets.specs.declared.error.Fault.{Fault}
use Rattle.span_targets.specs.declared.error.Fault.TheVariants.{Span, TooMany, UnknownLevel}
use Rattle.span_targets.specs.declared.error.FromEnvError.{FromEnvError}
use Rattle.span_targets.specs.declared.error.FromEnvError.TheVariants.{Env, Parse}
use Rattle.span_targets.specs.declared.error.ParseError.{ParseError}
use Rattle.span_targets.specs.declared.error.ParseError.TheVariants.{OutOfMemory, Wrong}
use Rattle.span_targets.specs.declared.error.WrongDirective.{WrongDirective}
use Rattle.span_targets.specs.declared.parse.TheConstants.{MAX_DIRECTIVES}
use Rattle.span_targets.specs.declared.span_directive.SpanDirective.{SpanDirective}

-- what a directive for spans says: what their target begins with, their name, and the levels that
-- pass within them
pub record SpanMeaning : Type 0 where
  pub target : List ℕ
  pub name : List ℕ
  pub level : LevelFilter

-- what a directive says, of targets or of spans
pub data EnvMeaning : Type 0 where
  OfTargets : Meaning → EnvMeaning
  OfSpans : SpanMeaning → EnvMeaning

-- the levels, if there are some
abbrev pub known_level : Option LevelFilter → Result LevelFilter Fault
known_level (Some l) = Ok l
known_level None = Err UnknownLevel

-- the levels by what stands behind a `]`: all where nothing does, else those that `=` stands before
abbrev pub level_behind : List ℕ → Result LevelFilter Fault
level_behind s =
    if length s == 0 then Ok TRACE
    else if has 61 s
    then (if length (before_first (λ b. b == 61) s) == 0
    then known_level (level_named (after_first (λ b. b == 61) s)) else Err Span)
    else Err Span

-- the levels are for spans of this name, whose target begins with this one, if they are levels
abbrev pub within_spans : List ℕ → List ℕ → Result LevelFilter Fault → Result SpanMeaning Fault
within_spans target name (Ok level) = Ok (record { target = target; name = name; level = level })
within_spans target name (Err fault) = Err fault

-- whether a text has an `=`, a `]` or a `{`
abbrev pub has_mark : List ℕ → Bool
has_mark s = has 61 s || (has 93 s || has 123 s)

-- what a directive for spans says by the two sides of its `[`: the target has no `=`, `]` or `{`;
-- the name goes as far as the first `]`, and has no `{`
abbrev pub span_meaning : List ℕ → List ℕ → Result SpanMeaning Fault
span_meaning target s =
    if has_mark target then Err Span
    else if has 93 s
    then (if has 123 (before_first (λ b. b == 93) s) then Err Span
    else within_spans target (before_first (λ b. b == 93) s)
    (level_behind (after_first (λ b. b == 93) s)))
    else Err Span

-- what was said of targets, as what a directive says
abbrev pub of_targets : Result Meaning Fault → Result EnvMeaning Fault
of_targets (Ok d) = Ok (OfTargets d)
of_targets (Err fault) = Err fault

-- what was said of spans, as what a directive says
abbrev pub of_spans : Result SpanMeaning Fault → Result EnvMeaning Fault
of_spans (Ok d) = Ok (OfSpans d)
of_spans (Err fault) = Err fault

-- what a directive says, or what is wrong with it: one with a `[` is for spans
abbrev pub env_meaning : List ℕ → Result EnvMeaning Fault
env_meaning s =
    if has 91 s
    then of_spans
    (span_meaning (before_first (λ b. b == 91) s) (after_first (λ b. b == 91) s))
    else of_targets (meaning s)

-- all that directives say: of targets, and of spans one after another
pub record EnvNames : Type 0 where
  pub targets : Names
  pub spans : List SpanMeaning

-- nothing was said
abbrev pub nothing_said : EnvNames
nothing_said = record { targets = nothing; spans = [] }

-- what was said, and what one more directive says
abbrev pub with_said : EnvMeaning → EnvNames → EnvNames
with_said (OfTargets d) m = record m { targets = naming d.0 d.1 m.targets }
with_said (OfSpans d) m = record m { spans = m.spans ++ d ∷ [] }

-- what is read on, unless the directive with this number is wrong
abbrev pub unless_fault : ℕ → Result EnvMeaning Fault
    → (EnvMeaning → Result EnvNames WrongDirective)
    → Result EnvNames WrongDirective
unless_fault n (Ok d) on = on d
unless_fault n (Err fault) on = Err (record { number = n; fault = fault })

-- what directives, numbered from n on, say beside what was said before, or the first that is wrong;
-- of those behind the most that are read the first is, as too many
abbrev pub env_from : ℕ → List (List ℕ) → EnvNames → Result EnvNames WrongDirective
env_from n [] m = Ok m
env_from n (p ∷ ps) m =
    if nat_lt MAX_DIRECTIVES n then Err (record { number = n; fault = TooMany })
    else unless_fault n (env_meaning p) (λ d. env_from (n + 1) ps (with_said d m))

-- what a text says, or the first of its directives that is wrong
abbrev pub env_reading : List ℕ → Result EnvNames WrongDirective
env_reading s = env_from 1 (directives_in s) nothing_said

-- what a directive for spans says
abbrev pub meaning_of : SpanDirective → SpanMeaning
meaning_of d =
    record { target = target_within d; name = name_within d; level = level_within d }

-- all that a filter's directives say
abbrev pub said_of : EnvFilter → EnvNames
said_of f = record { targets = names_of (targets_in f); spans = map meaning_of (spans_of f) }

-- the filter says what was read; where there is none, this directive is wrong, or memory was
-- refused
abbrev pub EnvReads : Result EnvNames WrongDirective → Result EnvFilter ParseError → Type 0
EnvReads r (Ok f) = r ≡ Ok (said_of f)
EnvReads r (Err (Wrong w)) = r ≡ Err w
EnvReads r (Err OutOfMemory) = ⊤

-- some text was read, or its first wrong directive is given, or memory was refused; or the text
-- can't be had
abbrev pub EnvReadsSomeText : Result EnvFilter FromEnvError → Type 0
EnvReadsSomeText (Ok f) = (s : List ℕ) × (env_reading s ≡ Ok (said_of f))
EnvReadsSomeText (Err (Parse e)) = (s : List ℕ) × EnvReads (env_reading s) (Err e)
EnvReadsSomeText (Err (Env e)) = ⊤
