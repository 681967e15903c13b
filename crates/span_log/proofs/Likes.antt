-- Levels and filters of `log` and those here, by tables.
use Rattle.std.proofs.Common.{◌≡◌, ◌∙◌, ◌<◌, Option, Some, None, refl, sym, ap, arith}
use Rattle.log.specs.Level.{filter_rank, level_name, level_rank}
use Rattle.log.specs.declared.level.Level.TheVariants as log
use Rattle.log.specs.declared.level.Level.{Level as LogLevel}
use Rattle.log.specs.declared.level.LevelFilter.TheVariants as log_filter
use Rattle.log.specs.declared.level.LevelFilter.{LevelFilter as LogFilter}
use Rattle.span_core.specs.Level.{filter_number, level_number, level_text, verbosity_number}
use Rattle.span_core.specs.declared.level.Level.{Level}
use Rattle.span_core.specs.declared.level.LevelFilter.{LevelFilter}
use Rattle.span_core.specs.declared.level.Verbosity.TheVariants.{Debug, Error, Info, Trace, Warn}
use Rattle.span_core.specs.declared.level.Verbosity.{Verbosity}
use Rattle.span_log.specs.Level.{SameFilter, SameLevel, like_of, like_of_filter}

-- the level with this verbosity, and the filter up to it
abbrev level_at : Verbosity → Level
level_at v = record { 0 = v }

abbrev filter_at : Option Level → LevelFilter
filter_at o = record { 0 = o }

-- ---- each has its like there

each_at : (v : Verbosity) → (a : LogLevel) × (level_at v ≡ like_of a)
each_at Error = (log.Error, refl)
each_at Warn = (log.Warn, refl)
each_at Info = (log.Info, refl)
each_at Debug = (log.Debug, refl)
each_at Trace = (log.Trace, refl)

pub each_level : (b : Level) → (a : LogLevel) × (b ≡ like_of a)
each_level b = each_at b.0

up_to : (v : Verbosity) → (f : LogFilter) × (filter_at (Some (level_at v)) ≡ like_of_filter f)
up_to Error = (log_filter.Error, refl)
up_to Warn = (log_filter.Warn, refl)
up_to Info = (log_filter.Info, refl)
up_to Debug = (log_filter.Debug, refl)
up_to Trace = (log_filter.Trace, refl)

by_most : (o : Option Level) → (f : LogFilter) × (filter_at o ≡ like_of_filter f)
by_most None = (log_filter.Off, refl)
by_most (Some b) = up_to b.0

pub each_filter : (g : LevelFilter) → (f : LogFilter) × (g ≡ like_of_filter f)
each_filter g = by_most g.0

-- ---- what is the same is the like

same_at : (a : LogLevel) (v : Verbosity) → level_rank a ≡ verbosity_number v → level_at v ≡ like_of a
same_at log.Error Error e = refl
same_at log.Warn Warn e = refl
same_at log.Info Info e = refl
same_at log.Debug Debug e = refl
same_at log.Trace Trace e = refl
same_at a v e = absurd (omega (arith, e))

pub same_level : (a : LogLevel) (b : Level) → SameLevel a b → b ≡ like_of a
same_level a b e = same_at a b.0 e

like_level : (a : LogLevel) → SameLevel a (like_of a)
like_level log.Error = refl
like_level log.Warn = refl
like_level log.Info = refl
like_level log.Debug = refl
like_level log.Trace = refl

pub level_same : (a : LogLevel) (b : Level) → b ≡ like_of a → SameLevel a b
level_same a b e = like_level a ∙ ap level_number (sym e)

counted : (v : Verbosity) → 0 < verbosity_number v
counted Error = omega arith
counted Warn = omega arith
counted Info = omega arith
counted Debug = omega arith
counted Trace = omega arith

same_up_to : (f : LogFilter) (v : Verbosity) → filter_rank f ≡ verbosity_number v → filter_at (Some (level_at v)) ≡ like_of_filter f
same_up_to log_filter.Error Error e = refl
same_up_to log_filter.Warn Warn e = refl
same_up_to log_filter.Info Info e = refl
same_up_to log_filter.Debug Debug e = refl
same_up_to log_filter.Trace Trace e = refl
same_up_to log_filter.Off v e = let some = counted v in absurd (omega (arith, e, some))
same_up_to f v e = absurd (omega (arith, e))

same_off : (f : LogFilter) → filter_rank f ≡ 0 → filter_at None ≡ like_of_filter f
same_off log_filter.Off e = refl
same_off f e = absurd (omega (arith, e))

same_by : (f : LogFilter) (o : Option Level) → SameFilter f (filter_at o) → filter_at o ≡ like_of_filter f
same_by f None e = same_off f e
same_by f (Some b) e = same_up_to f b.0 e

pub same_filter : (f : LogFilter) (g : LevelFilter) → SameFilter f g → g ≡ like_of_filter f
same_filter f g e = same_by f g.0 e

like_filter : (f : LogFilter) → SameFilter f (like_of_filter f)
like_filter log_filter.Off = refl
like_filter log_filter.Error = refl
like_filter log_filter.Warn = refl
like_filter log_filter.Info = refl
like_filter log_filter.Debug = refl
like_filter log_filter.Trace = refl

pub filter_same : (f : LogFilter) (g : LevelFilter) → g ≡ like_of_filter f → SameFilter f g
filter_same f g e = like_filter f ∙ ap filter_number (sym e)

-- ---- names

pub same_name : (a : LogLevel) → level_text (like_of a) ≡ level_name a
same_name log.Error = refl
same_name log.Warn = refl
same_name log.Info = refl
same_name log.Debug = refl
same_name log.Trace = refl
