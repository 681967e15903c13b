-- A filter by level keeps the law.
use Rattle.std.specs.Prelude.{◌≡◌, Bool, true, false, [], ◌∷◌, refl}
use Rattle.std.specs.Option.{unwrap_or}
use Rattle.std.proofs.Common.{ap, subst, sym, ◌∙◌}
use Rattle.std.proofs.lemmas.Bool.{not-true}
use Rattle.span_core.specs.Level.{passes_level}
use Rattle.span_core.specs.declared.interest.Interest.TheVariants.{Always, Never}
use Rattle.span_core.specs.declared.level.LevelFilter.{LevelFilter}
use Rattle.span_filters.specs.Filter.{FilterLaws, FilterReloadLaws, settled_answers, unmoved}
use Rattle.span_filters.specs.Level.{ActsByLevel, interest_by, level_after, level_answers, level_conduct, level_taken}
use Rattle.span_filters.specs.laws.Filter.{equal_alike, after}
use Rattle.span_registry.specs.Behaviour.{AreAlikeHistories, AreHonest, Conduct, History, IsPlain, OfReload, OfNotice}
use Rattle.span_registry.specs.Conducts.{after_reload}
use Rattle.span_registry.specs.View.{view_of}
use Rattle.span_targets.specs.Setting.{level_in}

-- where the interest of a filter by level is always, metadata are enabled; where it is never, they
-- aren't
pub always_passes : (b : Bool) → interest_by b ≡ Always → b ≡ true
always_passes true e = refl
always_passes false e = absurd (cc)

pub never_passes : (b : Bool) → interest_by b ≡ Never → b ≡ false
never_passes true e = absurd (cc)
never_passes false e = refl

-- what a filter by level answers is honest
pub level_honest : (f : LevelFilter) → AreHonest (level_answers f)
level_honest f = record {
  always = λ m v e. always_passes _ e;
  never = λ m v e. never_passes _ e;
  above = λ m v e. not-true _ e;
  alike = λ m k e. ap (λ l. interest_by (passes_level f l)) e.level;
}

level_same : (f g : LevelFilter) (h k : History) → f ≡ g → AreAlikeHistories h k
    → level_after f h ≡ level_after g k
level_same f g [] [] e a = e
level_same f g (OfNotice d v ∷ h) (OfNotice n w ∷ k) e a = level_same f g h k e a.2
level_same f g (OfReload s ∷ h) (OfReload t ∷ k) e a =
    level_same (unwrap_or (level_in s) f) (unwrap_or (level_in t) g) h k
    (λ i. unwrap_or (level_in (a.0 i)) (e i)) a.1
level_same f g h k e a = absurd a

-- the conduct of a filter by level is plain, since it looks at no view
pub level_plain : (f : LevelFilter) → IsPlain (level_conduct f)
level_plain f = record {
  answers = λ h. record { enabled = λ m v w e. refl; event = λ e v w d. refl };
  history = λ h k a. ap level_answers (level_same f f h k refl a);
}

-- a filter by level keeps the law of filters
pub level_laws : FilterLaws (settled_answers level_answers) unmoved ActsByLevel
level_laws = record {
  honest = λ f a h. subst AreHonest (sym h) (level_honest f);
  keeps =
      λ f e lane under v g w a s h. (
        a,
        subst (λ k. settled_answers level_answers k a) (sym s.0) h,
        record { interest = refl; hint = refl },
      );
  plain = λ f b h. subst IsPlain (sym h) (level_plain f);
  now = λ f b h. ap (λ (c : Conduct). c []) h;
  only = λ f a b d h. equal_alike a (b []) (d ∙ sym (ap (λ (c : Conduct). c []) h));
  goes_on =
      λ f e lane under v g w b h s.
      subst (λ k. ActsByLevel k (λ n. b (OfNotice e (view_of v.store lane under) ∷ n))) (sym s.0)
      (ap (after e (view_of v.store lane under)) h);
}

-- a filter by level keeps the law of reloading
pub level_reloads : FilterReloadLaws (settled_answers level_answers) level_taken ActsByLevel
level_reloads = record {
  answers = λ f l g a s h. (level_answers g, refl);
  goes_on =
      λ f l g b s h. subst (λ k. ActsByLevel k (after_reload l b)) (sym s) (ap (after_reload l) h);
}
