-- The filters of these tests keep the law.
use Rattle.std.specs.Prelude.{◌≡◌, Bool, [], ◌∷◌, is_some, refl}
use Rattle.std.proofs.Common.{ap, subst, sym, ◌∙◌}
use Rattle.span_filters.specs.Filter.{FilterLaws, settled_answers, FilterReloadLaws, unreloaded}
use Rattle.span_filters.specs.laws.Closure.{unhinted_view_honest}
use Rattle.span_filters.specs.laws.Filter.{equal_alike, unreloaded_laws}
use Rattle.span_registry.specs.Behaviour.{AreAlikeHistories, AreHonest, ArePlain, Conduct, History, IsPlain, OfReload, SameInterestAndHint, OfNotice}
use Rattle.span_registry.specs.Conducts.{after_reload}
use Rattle.span_registry.specs.View.{current_shown, view_of}
use Rattle.span_layer_tests.specs.Filters.{if_answers, in_span_answers, mute_answers, since_entered, wanted_after}

pub mute_honest : AreHonest mute_answers
mute_honest = record {
  always = λ m v e. refl;
  never = λ m v e. absurd (cc);
  above = λ m v e. absurd (cc);
  alike = λ m k e. refl;
}

pub in_span_honest : AreHonest in_span_answers
in_span_honest = unhinted_view_honest (λ m v. is_some (current_shown v))

pub if_honest : (b : Bool) → AreHonest (if_answers b)
if_honest b = unhinted_view_honest (λ m v. b)

since_plain : (wanted : Bool) (h : History) → ArePlain (since_entered wanted h)
since_plain wanted [] = record { enabled = λ m v w e. refl; event = λ e v w d. refl }
since_plain wanted (OfNotice e v ∷ h) = since_plain (wanted_after e wanted) h
since_plain wanted (OfReload l ∷ h) = since_plain wanted h

since_same : (wanted : Bool) (h k : History) → AreAlikeHistories h k
    → since_entered wanted h ≡ since_entered wanted k
since_same wanted [] [] a = refl
since_same wanted (OfReload l ∷ h) (OfReload m ∷ k) a = since_same wanted h k a.1
since_same wanted (OfNotice e v ∷ h) (OfNotice d w ∷ k) a =
    since_same (wanted_after e wanted) h k a.2
    ∙ ap (λ n. since_entered (wanted_after n wanted) k) a.0
since_same wanted h k a = absurd a

-- such a filter keeps the law
pub since_laws : {F : Type 0} (wants : F → Bool)
    → FilterLaws (settled_answers (λ f. if_answers (wants f)))
    (λ f e lane under v g w. (wants g ≡ wanted_after e (wants f)) × (w ≡ v))
    (λ f b. b ≡ since_entered (wants f))
since_laws wants = record {
  honest = λ f a h. subst AreHonest (sym h) (if_honest (wants f));
  keeps =
      λ f e lane under v g w a s h. (
        if_answers (wants g),
        refl,
        subst (λ b. SameInterestAndHint b (if_answers (wants g))) (sym h)
            (record { interest = refl; hint = refl }),
      );
  plain =
      λ f b h. subst IsPlain (sym h)
      (record { answers = since_plain (wants f); history = since_same (wants f) });
  now = λ f b h. ap (λ (c : Conduct). c []) h;
  only = λ f a b d h. equal_alike a (b []) (d ∙ sym (ap (λ (c : Conduct). c []) h));
  goes_on =
      λ f e lane under v g w b h s. (λ i k. h i (OfNotice e (view_of v.store lane under) ∷ k))
      ∙ sym (ap since_entered s.0);
}

-- and that of levels, as it takes none
pub since_levels : {F : Type 0} (wants : F → Bool)
    → FilterReloadLaws (settled_answers (λ f. if_answers (wants f))) unreloaded
    (λ f b. b ≡ since_entered (wants f))
since_levels wants = unreloaded_laws (λ f l b h. ap (after_reload l) h)
