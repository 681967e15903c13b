-- How a filter takes directives of a text for targets and spans.
use Rattle.std.specs.Prelude.{◌≡◌, ⊤, ℕ, List, Result, Ok, Err}
use Rattle.std.specs.Option.{option_copied}
use Rattle.span_core.specs.declared.level.LevelFilter.{LevelFilter}
use Rattle.span_targets.specs.EnvText.{EnvMeaning, EnvNames, OfSpans, OfTargets, SpanMeaning, env_from, said_of, with_said}
use Rattle.span_targets.specs.Text.{directives_in}
use Rattle.span_targets.specs.declared.env_filter.EnvFilter.{EnvFilter}
use Rattle.span_targets.specs.declared.env_parse.SaidOf.TheVariants.{Spans, Targets}
use Rattle.span_targets.specs.declared.env_parse.SaidOf.{SaidOf}
use Rattle.span_targets.specs.declared.env_parse.SaidOfSpans.{SaidOfSpans}
use Rattle.span_targets.specs.declared.error.Fault.{Fault}
use Rattle.span_targets.specs.declared.error.ParseError.TheVariants.{OutOfMemory, Wrong}
use Rattle.span_targets.specs.declared.error.ParseError.{ParseError}
use Rattle.span_targets.specs.declared.error.WrongDirective.{WrongDirective}

-- levels were read as they are meant
abbrev pub ReadsLevel : Result LevelFilter Fault → Result LevelFilter Fault → Type 0
ReadsLevel r given = r ≡ given

-- what was read of spans
abbrev pub span_read : SaidOfSpans → SpanMeaning
span_read said =
    record { target = said.target.now; name = said.name.now; level = said.level }

-- a directive for spans was read as it is meant
abbrev pub ReadsSpan : Result SpanMeaning Fault → Result SaidOfSpans Fault → Type 0
ReadsSpan r (Ok said) = r ≡ Ok (span_read said)
ReadsSpan r (Err fault) = r ≡ Err fault

-- what was read of targets or of spans
abbrev pub either_read : SaidOf → EnvMeaning
either_read (Targets said) = OfTargets (option_copied said.target, said.level)
either_read (Spans said) = OfSpans (span_read said)

-- a directive was read as it is meant
abbrev pub ReadsEither : Result EnvMeaning Fault → Result SaidOf Fault → Type 0
ReadsEither r (Ok said) = r ≡ Ok (either_read said)
ReadsEither r (Err fault) = r ≡ Err fault

-- a filter takes the directive with this number, or it is wrong, or memory was refused
abbrev pub EnvTakes : ℕ → Result EnvMeaning Fault → EnvFilter → EnvFilter
    → Result (Unit {0}) ParseError → Type 0
EnvTakes n r f g (Ok u) = (d : EnvMeaning) × (r ≡ Ok d) × (said_of g ≡ with_said d (said_of f))
EnvTakes n r f g (Err (Wrong w)) =
    (fault : Fault) × (r ≡ Err fault) × (w ≡ record { number = n; fault = fault })
EnvTakes n r f g (Err OutOfMemory) = ⊤

-- a filter says what was read; or this directive is wrong, or memory was refused
abbrev pub EnvGives : Result EnvNames WrongDirective → EnvFilter → Result (Unit {0}) ParseError
    → Type 0
EnvGives r g (Ok u) = r ≡ Ok (said_of g)
EnvGives r g (Err (Wrong w)) = r ≡ Err w
EnvGives r g (Err OutOfMemory) = ⊤

-- a filter takes the directives of a text, or the first wrong one is given, or memory was refused
abbrev pub EnvTakesAll : List ℕ → EnvFilter → EnvFilter → Result (Unit {0}) ParseError → Type 0
EnvTakesAll s f g given = EnvGives (env_from 1 (directives_in s) (said_of f)) g given
