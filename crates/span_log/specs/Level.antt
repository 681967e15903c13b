-- Levels of `log` and levels here, filters there and here: the same ones, by their numbers.
use Rattle.std.specs.Prelude.{◌≡◌, ◌≤◌, ◌↔◌}
use Rattle.log.specs.Level.{allows, filter_rank, level_name, level_rank}
use Rattle.log.specs.declared.level.Level.TheVariants as log
use Rattle.log.specs.declared.level.Level.{Level as LogLevel}
use Rattle.log.specs.declared.level.LevelFilter.TheVariants as log_filter
use Rattle.log.specs.declared.level.LevelFilter.{LevelFilter as LogFilter}
use Rattle.span_core.specs.Level.{filter_number, level_number, level_text, passes_level}
use Rattle.span_core.specs.declared.level.Level.{Level}
use Rattle.span_core.specs.declared.level.LevelFilter.{LevelFilter}
use Rattle.span_core.specs.declared.level.TheConstants.Level.{DEBUG, ERROR, INFO, TRACE, WARN}
use Rattle.span_core.specs.declared.level.TheConstants.LevelFilter as filter

-- two levels are the same: both have one number, from 1 for errors to 5 for traces
abbrev pub SameLevel : LogLevel → Level → Type 0
SameLevel there here = level_rank there ≡ level_number here

-- two filters are the same: both have the number of the most verbose level that passes, 0 where
-- none does
abbrev pub SameFilter : LogFilter → LevelFilter → Type 0
SameFilter there here = filter_rank there ≡ filter_number here

-- the level here that is named as the one in `log` is
abbrev pub like_of : LogLevel → Level
like_of log.Error = ERROR
like_of log.Warn = WARN
like_of log.Info = INFO
like_of log.Debug = DEBUG
like_of log.Trace = TRACE

-- the filter here that is named as the one in `log` is
abbrev pub like_of_filter : LogFilter → LevelFilter
like_of_filter log_filter.Off = filter.OFF
like_of_filter log_filter.Error = filter.ERROR
like_of_filter log_filter.Warn = filter.WARN
like_of_filter log_filter.Info = filter.INFO
like_of_filter log_filter.Debug = filter.DEBUG
like_of_filter log_filter.Trace = filter.TRACE

-- levels and filters are the same exactly by these tables, which miss none on either side; so each
-- has one like on the other side. Both sides have one order, levels the same names, and what a
-- filter there allows passes the same filter here
pub record LevelsAgree : Type 0 where
  pub levels : (a : LogLevel) (b : Level) → SameLevel a b ↔ (b ≡ like_of a)
  pub filters : (f : LogFilter) (g : LevelFilter) → SameFilter f g ↔ (g ≡ like_of_filter f)
  pub each : (b : Level) → (a : LogLevel) × (b ≡ like_of a)
  pub each_filter : (g : LevelFilter) → (f : LogFilter) × (g ≡ like_of_filter f)
  pub names : (a : LogLevel) → level_text (like_of a) ≡ level_name a
  pub here : (a : LogLevel) (b c : Level) → SameLevel a b → SameLevel a c → b ≡ c
  pub there : (a b : LogLevel) (c : Level) → SameLevel a c → SameLevel b c → a ≡ b
  pub filter_here : (f : LogFilter) (g h : LevelFilter) → SameFilter f g → SameFilter f h → g ≡ h
  pub filter_there : (f g : LogFilter) (h : LevelFilter) → SameFilter f h → SameFilter g h → f ≡ g
  pub order : (a b : LogLevel) (c d : Level) → SameLevel a c → SameLevel b d
      → (level_rank a ≤ level_rank b) ↔ (level_number c ≤ level_number d)
  pub passes : (f : LogFilter) (a : LogLevel) (g : LevelFilter) (b : Level) → SameFilter f g
      → SameLevel a b → allows f a ≡ passes_level g b
