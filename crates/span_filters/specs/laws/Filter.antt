-- Filters keep their law: those whose hooks do nothing, and those that take no setting.
use Rattle.std.specs.Prelude.{◌≡◌, [], ◌∷◌, refl}
use Rattle.std.proofs.Common.{ap, sym, subst}
use Rattle.span_filters.specs.Filter.{FilterLaws, FilterReloadLaws, settled_answers, unmoved, ActsSteadily, unreloaded}
use Rattle.span_registry.specs.Behaviour.{AnswerAlike, Behaviour, AreHonest, ArePlain, Conduct, IsPlain, Notice, OfNotice}
use Rattle.span_registry.specs.Conducts.{after_reload}
use Rattle.span_targets.specs.declared.setting.Setting.{Setting}
use Rattle.span_registry.specs.View.{View, view_of}

-- a filter that takes no setting keeps the law of reloading, if its conduct doesn't go by settings
pub unreloaded_laws : {F : Type 0} {has : F → Behaviour → Type 0} {acts : F → Conduct → Type 0}
    → ((f : F) (s : Setting) (b : Conduct) → acts f b → acts f (after_reload s b))
    → FilterReloadLaws has unreloaded acts
unreloaded_laws {has = has} {acts = acts} same = record {
  answers = λ f l g a s h. (a, subst (λ k. has k a) (sym s) h);
  goes_on = λ f l g b s h. subst (λ k. acts k (after_reload l b)) (sym s) (same f l b h);
}

-- equal answers are alike
pub equal_alike : (a b : Behaviour) → a ≡ b → AnswerAlike a b
equal_alike a b e = record {
  enabled = λ m s lane mask i. (e i).enabled m (view_of s lane mask);
  event = λ n s lane mask i. (e i).event n (view_of s lane mask);
}

always_plain : (a : Behaviour) → ArePlain a → IsPlain (λ h. a)
always_plain a p = record { answers = λ h. p; history = λ h k e. refl }

-- a filter whose hooks do nothing keeps the law if its answers are honest
pub still_laws : {F : Type 0} (has : F → Behaviour → Type 0)
    → ((f : F) (a : Behaviour) → has f a → AreHonest a) → FilterLaws has unmoved (ActsSteadily has)
still_laws has honest = record {
  honest = honest;
  keeps =
      λ f e lane under v g w a s h.
      (a, subst (λ k. has k a) (sym s.0) h, record { interest = refl; hint = refl });
  plain = λ f b h. subst IsPlain (sym h.steady) (always_plain h.always h.plain);
  now = λ f b h. subst (λ c. has f (c [])) (sym h.steady) h.answered;
  only = λ f a b d h. subst (λ c. AnswerAlike a (c [])) (sym h.steady) (h.only a d);
  goes_on = λ f e lane under v g w b h s. record {
    always = h.always;
    answered = subst (λ k. has k h.always) (sym s.0) h.answered;
    only = λ a d. h.only a (subst (λ k. has k a) s.0 d);
    plain = h.plain;
    steady = ap (λ c k. c (OfNotice e (view_of v.store lane under) ∷ k)) h.steady;
  };
}

-- a filter whose hooks do nothing, and that takes no setting, keeps the law of reloading
pub steady_reloads : {F : Type 0} {has : F → Behaviour → Type 0}
    → FilterReloadLaws has unreloaded (ActsSteadily has)
steady_reloads =
    unreloaded_laws (λ f l b h.
    record {
      always = h.always;
      answered = h.answered;
      only = h.only;
      plain = h.plain;
      steady = ap (after_reload l) h.steady;
    })

-- a filter whose state settles its answers keeps the law if these are honest, and its hooks do
-- nothing
pub settled_laws : {F : Type 0} (answers : F → Behaviour) → ((f : F) → AreHonest (answers f))
    → FilterLaws (settled_answers answers) unmoved (ActsSteadily (settled_answers answers))
settled_laws answers honest =
    still_laws (settled_answers answers) (λ f a h. subst AreHonest (sym h) (honest f))

-- a conduct after a notice
abbrev pub after : Notice → View → Conduct → Conduct
after e v c = λ k. c (OfNotice e v ∷ k)
