-- What a filter is set to while a program runs.
use Rattle.std.specs.Prelude.{◌≡◌, ⊤, Option, None, Some, Result, Ok, Err}
use Rattle.span_core.specs.declared.level.LevelFilter.{LevelFilter}
use Rattle.span_targets.specs.EnvText.{EnvNames, said_of}
use Rattle.span_targets.specs.declared.env_filter.EnvFilter.{EnvFilter}
use Rattle.span_targets.specs.declared.error.ParseError.{ParseError}
use Rattle.span_targets.specs.declared.error.ParseError.TheVariants.{OutOfMemory, Wrong}
use Rattle.span_targets.specs.declared.error.WrongDirective.{WrongDirective}
use Rattle.span_targets.specs.declared.setting.Setting.TheVariants.{Directives, Level}
use Rattle.span_targets.specs.declared.setting.Setting.{Setting}

-- the level of a setting, if it is one
abbrev pub level_in : Setting → Option LevelFilter
level_in (Level l) = Some l
level_in (Directives f) = None

-- a setting is these directives
abbrev pub sets_to : EnvFilter → Setting → Type 0
sets_to f (Level l) = ⊥
sets_to f (Directives g) = g.now ≡ f

-- a setting is the directives that were read; where there is none, this directive is wrong, or
-- memory was refused
abbrev pub ReadsSetting : Result EnvNames WrongDirective → Result Setting ParseError → Type 0
ReadsSetting r (Ok setting) = (f : EnvFilter) × sets_to f setting × (r ≡ Ok (said_of f))
ReadsSetting r (Err (Wrong w)) = r ≡ Err w
ReadsSetting r (Err OutOfMemory) = ⊤
