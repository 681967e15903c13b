-- A filter by a setting keeps the law.
use Rattle.std.specs.Prelude.{[], ◌∷◌, refl}
use Rattle.std.proofs.Common.{ap, subst, sym, ◌∙◌}
use Rattle.span_filters.specs.Filter.{FilterLaws, FilterReloadLaws, settled_answers, unmoved}
use Rattle.span_filters.specs.Setting.{ActsBySetting, setting_answers, setting_taken}
use Rattle.span_filters.specs.laws.EnvFilter.{env_honest}
use Rattle.span_filters.specs.laws.Filter.{after, equal_alike}
use Rattle.span_filters.specs.laws.Level.{level_honest}
use Rattle.span_registry.specs.Behaviour.{AreAlike, AreAlikeHistories, AreHonest, Conduct, History, Input, IsPlain, OfNotice, OfReload}
use Rattle.span_registry.specs.Conducts.{after_reload}
use Rattle.span_registry.specs.View.{View, view_of}
use Rattle.span_targets.specs.declared.setting.Setting.TheVariants.{Directives, Level}
use Rattle.span_targets.specs.declared.setting.Setting.{Setting}

-- what a filter by a setting answers is honest
pub setting_honest : (f : Setting) → AreHonest (setting_answers f)
setting_honest (Level l) =
    let h = level_honest l in
    record { always = h.always; never = h.never; above = h.above; alike = h.alike }
setting_honest (Directives f) =
    let h = env_honest f.now in
    record { always = h.always; never = h.never; above = h.above; alike = h.alike }

-- each view differs from itself in extensions alone
alike_itself : (v : View) → AreAlike v v
alike_itself v = record { lane = refl; stack = refl; spans = λ x. refl }

one_more : (x : Input) (h k : History) → AreAlikeHistories h k → AreAlikeHistories (x ∷ h) (x ∷ k)
one_more (OfNotice e v) h k a = (refl, alike_itself v, a)
one_more (OfReload s) h k a = (refl, a)

-- a plain conduct is plain after each input
plain_after : (b : Conduct) (x : Input) → IsPlain b → IsPlain (λ h. b (x ∷ h))
plain_after b x p = record {
  answers = λ h. p.answers (x ∷ h);
  history = λ h k a. p.history (x ∷ h) (x ∷ k) (one_more x h k a);
}

-- a filter by a setting keeps the law of filters
pub setting_laws : FilterLaws (settled_answers setting_answers) unmoved ActsBySetting
setting_laws = record {
  honest = λ f a h. subst AreHonest (sym h) (setting_honest f);
  keeps =
      λ f e lane under v g w a s h. (
        a,
        subst (λ k. settled_answers setting_answers k a) (sym s.0) h,
        record { interest = refl; hint = refl },
      );
  plain = λ f b h. h.1;
  now = λ f b h. ap (λ (c : Conduct). c []) h.0;
  only = λ f a b d h. equal_alike a (b []) (d ∙ sym (ap (λ (c : Conduct). c []) h.0));
  goes_on =
      λ f e lane under v g w b h s. let seen = view_of v.store lane under in
      subst (λ k. ActsBySetting k (λ n. b (OfNotice e seen ∷ n))) (sym s.0)
      (ap (after e seen) h.0, plain_after b (OfNotice e seen) h.1);
}

-- a filter by a setting keeps the law of reloading
pub setting_reloads : FilterReloadLaws (settled_answers setting_answers) setting_taken ActsBySetting
setting_reloads = record {
  answers = λ f l g a s h. (setting_answers g, refl);
  goes_on =
      λ f l g b s h. subst (λ k. ActsBySetting k (after_reload l b)) (sym s)
      (ap (after_reload l) h.0, plain_after b (OfReload l) h.1);
}
