-- What a filter by level answers.
use Rattle.std.specs.Prelude.{◌≡◌, Bool, true, if◌then◌else◌, is_some, [], ◌∷◌, Some}
use Rattle.std.specs.Option.{unwrap_or}
use Rattle.span_core.specs.Level.{passes_level}
use Rattle.span_core.specs.Metadata.{level_of}
use Rattle.span_core.specs.declared.interest.Interest.TheVariants.{Always, Never}
use Rattle.span_core.specs.declared.interest.Interest.{Interest}
use Rattle.span_core.specs.declared.level.LevelFilter.{LevelFilter}
use Rattle.span_filters.specs.Filter.{FilterReloadSteps}
use Rattle.span_registry.specs.Behaviour.{Behaviour, Conduct, History, OfReload, OfNotice}
use Rattle.span_targets.specs.Setting.{level_in}
use Rattle.span_targets.specs.declared.setting.Setting.TheVariants.{Directives, Level}
use Rattle.span_targets.specs.declared.setting.Setting.{Setting}

-- the interest of a filter by level: always or never, by whether metadata are enabled
abbrev pub interest_by : Bool → Interest
interest_by passes = if passes then Always else Never

-- what a filter by level answers: levels up to its own are enabled, and every event; its hint is
-- its level, and it takes levels
abbrev pub level_answers : LevelFilter → Behaviour
level_answers f = record {
  enabled = λ m v. passes_level f (level_of m);
  event = λ e v. true;
  interest = λ m. interest_by (passes_level f (level_of m));
  hint = Some f;
  takes = λ s. is_some (level_in s);
}

-- what a filter answers that takes levels alone, once it was to take this setting
abbrev pub answers_set : Setting → Behaviour → Behaviour
answers_set (Level l) a = if a.takes (Level l) then level_answers l else a
answers_set (Directives f) a = a

-- the level that a filter goes by after a history: the last one that it took
abbrev pub level_after : LevelFilter → History → LevelFilter
level_after f [] = f
level_after f (OfNotice e v ∷ h) = level_after f h
level_after f (OfReload s ∷ h) = level_after (unwrap_or (level_in s) f) h

-- the conduct of a filter by level: it answers by the level that it last took
abbrev pub level_conduct : LevelFilter → Conduct
level_conduct f h = level_answers (level_after f h)

-- a filter by level acts by the level that it last took
abbrev pub ActsByLevel : LevelFilter → Conduct → Type 0
ActsByLevel f b = b ≡ level_conduct f

-- a filter by level becomes the level that it is given, if that is one
abbrev pub level_taken : FilterReloadSteps LevelFilter
level_taken f s g = g ≡ unwrap_or (level_in s) f
