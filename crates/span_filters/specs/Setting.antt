-- What a filter by a setting answers.
use Rattle.std.specs.Prelude.{◌≡◌, true, [], ◌∷◌}
use Rattle.span_filters.specs.EnvFilter.{env_answers}
use Rattle.span_filters.specs.Filter.{FilterReloadSteps}
use Rattle.span_filters.specs.Level.{level_answers}
use Rattle.span_registry.specs.Behaviour.{Behaviour, Conduct, History, IsPlain, OfNotice, OfReload}
use Rattle.span_targets.specs.declared.setting.Setting.TheVariants.{Directives, Level}
use Rattle.span_targets.specs.declared.setting.Setting.{Setting}

-- what a filter by a setting answers: as one by that level or those directives, but it takes each
-- setting
abbrev pub setting_answers : Setting → Behaviour
setting_answers (Level l) = record (level_answers l) { takes = λ s. true }
setting_answers (Directives f) = record (env_answers f.now) { takes = λ s. true }

-- the setting that a filter goes by after a history: the last one that it took
abbrev pub setting_after : Setting → History → Setting
setting_after f [] = f
setting_after f (OfNotice e v ∷ h) = setting_after f h
setting_after f (OfReload s ∷ h) = setting_after s h

-- the conduct of a filter by a setting: it answers by the setting that it last took
abbrev pub setting_conduct : Setting → Conduct
setting_conduct f h = setting_answers (setting_after f h)

-- a filter by a setting acts by the one that it last took, where extensions make no difference
abbrev pub ActsBySetting : Setting → Conduct → Type 0
ActsBySetting f b = (b ≡ setting_conduct f) × IsPlain b

-- a filter by a setting becomes the one that it is given
abbrev pub setting_taken : FilterReloadSteps Setting
setting_taken f s g = g ≡ s
