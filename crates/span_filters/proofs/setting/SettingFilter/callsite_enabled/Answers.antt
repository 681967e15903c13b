use Rattle.std.proofs.Common.{ap, refl, sym, ◌∙◌}
use Rattle.span_filters.specs.EnvFilter.{env_answers}
use Rattle.span_filters.specs.Level.{level_answers}
use Rattle.span_filters.specs.Setting.{setting_answers}
use Rattle.span_filters.proofs.setting.SettingFilter.callsite_enabled.Goals as goal
use Rattle.span_registry.specs.Behaviour.{Behaviour}

pub returns-in-Level : goal.returns-in-Level
returns-in-Level g c a h =
    c.callsite_enabled.ensures (level_answers c.in-Level.level) refl
    ∙ sym (ap (λ (b : Behaviour). b.interest c.args.meta.now) (h ∙ ap setting_answers c.in-Level.is))

pub returns-in-Directives : goal.returns-in-Directives
returns-in-Directives g c a h =
    c.callsite_enabled-in-Directives.ensures (env_answers c.in-Directives.filter.now) refl
    ∙ sym (ap (λ (b : Behaviour). b.interest c.args.meta.now) (h ∙ ap setting_answers c.in-Directives.is))
