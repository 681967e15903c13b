-- A filter that is made of one part or of two keeps the law, since its parts do.
use Rattle.std.specs.Prelude.{◌⊎◌, [], ◌∷◌, refl}
use Rattle.std.proofs.Common.{ap, inl, inr, sym, subst, ◌∙◌}
use Rattle.span_filters.specs.Combinator.{ActsBoth, ActsOne, HasBoth, HasOne, StepsBoth}
use Rattle.span_filters.specs.Filter.{FilterLaws, FilterReloadLaws, FilterSteps, unreloaded}
use Rattle.span_filters.specs.laws.Filter.{unreloaded_laws, after}
use Rattle.span_registry.proofs.CallerLemmas.{histories_alike, notices_alike, views_alike}
use Rattle.span_registry.specs.Behaviour.{AnswerAlike, Behaviour, AreHonest, ArePlain, Conduct, IsPlain, SameInterestAndHint, OfNotice, notices_of}
use Rattle.span_registry.specs.Conducts.{after_reload}
use Rattle.span_registry.specs.View.{view_of}

module _ {A C : Type 0} (turn : Behaviour → Behaviour) (part : C → A) {has : A → Behaviour → Type 0}
    {steps : FilterSteps A} {acts : A → Conduct → Type 0}
    (laws : FilterLaws has steps acts)
    (honest : (x : Behaviour) → AreHonest x → AreHonest (turn x))
    (same : (x y : Behaviour) → SameInterestAndHint x y → SameInterestAndHint (turn x) (turn y))
    (plain : (x : Behaviour) → ArePlain x → ArePlain (turn x))
    (alike : (x y : Behaviour) → AnswerAlike x y → AnswerAlike (turn x) (turn y)) where
  -- a filter of one part keeps the law, since its part does
  pub one_laws : FilterLaws (λ f a. HasOne turn has (part f) a)
      (λ f e lane under v g w. steps (part f) e lane under v (part g) w)
      (λ f b. ActsOne turn acts (part f) b)
  one_laws = record {
    honest =
        λ f a h. subst AreHonest (sym h.turned)
        (honest h.inside (laws.honest (part f) h.inside h.has_inside));
    keeps = λ f e lane under v g w a s h.
        let x = laws.keeps (part f) e lane under v (part g) w h.inside s h.has_inside in (
          turn x.0,
          record { inside = x.0; has_inside = x.1; turned = refl },
          subst
              (λ c. SameInterestAndHint c (turn x.0)) (sym h.turned) (same h.inside x.0 x.2),
        );
    plain = λ f b h.
        let p = laws.plain (part f) h.inside h.acts_inside in
        subst IsPlain (sym h.turned)
        (record {
          answers = λ k. plain (h.inside (notices_of k)) (p.answers (notices_of k));
          history = λ k n e. ap turn
              (p.history (notices_of k) (notices_of n) (notices_alike k n e));
        });
    now =
        λ f b h. record {
          inside = h.inside [];
          has_inside = laws.now (part f) h.inside h.acts_inside;
          turned = ap (λ (c : Conduct). c []) h.turned;
        };
    only = λ f a b d h.
        let x =
        alike d.inside (h.inside [])
        (laws.only (part f) d.inside h.inside d.has_inside h.acts_inside) in
        subst (λ c. AnswerAlike c (b [])) (sym d.turned)
        (subst (λ c. AnswerAlike (turn d.inside) (c [])) (sym h.turned) x);
    goes_on = λ f e lane under v g w b h s. record {
      inside = λ k. h.inside (OfNotice e (view_of v.store lane under) ∷ k);
      acts_inside = laws.goes_on (part f) e lane under v (part g) w h.inside h.acts_inside s;
      turned = ap (after e (view_of v.store lane under)) h.turned;
    };
  }

module _ {A B C : Type 0} (join : Behaviour → Behaviour → Behaviour) (first : C → A)
    (second : C → B)
    {has : A → Behaviour → Type 0} {steps : FilterSteps A} {acts : A → Conduct → Type 0}
    (laws : FilterLaws has steps acts)
    {other_has : B → Behaviour → Type 0} {other_steps : FilterSteps B}
    {other_acts : B → Conduct → Type 0} (others : FilterLaws other_has other_steps other_acts)
    (honest : (x y : Behaviour) → AreHonest x → AreHonest y → AreHonest (join x y))
    (same : (x y u w : Behaviour) → SameInterestAndHint x u → SameInterestAndHint y w
    → SameInterestAndHint (join x y) (join u w))
    (plain : (x y : Behaviour) → ArePlain x → ArePlain y → ArePlain (join x y))
    (alike : (x y u w : Behaviour) → AnswerAlike x u → AnswerAlike y w
    → AnswerAlike (join x y) (join u w)) where
  -- a filter of two parts keeps the law, since its parts do
  pub both_laws : FilterLaws (λ f a. HasBoth join has other_has (first f) (second f) a)
      (λ f e lane under v g w.
      StepsBoth steps other_steps (first f) (second f) e lane under v (first g) (second g)
      w)
      (λ f b. ActsBoth join acts other_acts (first f) (second f) b)
  both_laws = record {
    honest = λ f a h.
        subst AreHonest (sym h.joined)
        (honest h.left h.right (laws.honest (first f) h.left h.has_left)
        (others.honest (second f) h.right h.has_right));
    keeps = λ f e lane under v g w a s h.
        let x = laws.keeps (first f) e lane under v (first g) s.between h.left s.left h.has_left in
        let y =
        others.keeps (second f) e lane under s.between (second g) w h.right s.right h.has_right
        in (
          join x.0 y.0,
          record { left = x.0; right = y.0; has_left = x.1; has_right = y.1; joined = refl },
          subst (λ c. SameInterestAndHint c (join x.0 y.0)) (sym h.joined)
              (same h.left h.right x.0 y.0 x.2 y.2),
        );
    plain = λ f b h.
        let p = laws.plain (first f) h.left h.acts_left in
        let q = others.plain (second f) h.right h.acts_right in
        subst IsPlain (sym h.joined) (record {
          answers =
              λ k. plain (h.left (notices_of k)) (h.right (notices_of k)) (p.answers (notices_of k))
              (q.answers (notices_of k));
          history =
              λ k n e i. let d = notices_alike k n e in
              join (p.history (notices_of k) (notices_of n) d i)
              (q.history (notices_of k) (notices_of n) d i);
        });
    now = λ f b h. record {
      left = h.left [];
      right = h.right [];
      has_left = laws.now (first f) h.left h.acts_left;
      has_right = others.now (second f) h.right h.acts_right;
      joined = ap (λ (c : Conduct). c []) h.joined;
    };
    only = λ f a b d h.
        let x = laws.only (first f) d.left h.left d.has_left h.acts_left in
        let y = others.only (second f) d.right h.right d.has_right h.acts_right in
        subst (λ c. AnswerAlike c (b [])) (sym d.joined)
        (subst (λ c. AnswerAlike (join d.left d.right) (c [])) (sym h.joined)
        (alike d.left d.right (h.left []) (h.right []) x y));
    goes_on = λ f e lane under v g w b h s.
        let q = others.plain (second f) h.right h.acts_right in
        record {
          left = λ k. h.left (OfNotice e (view_of v.store lane under) ∷ k);
          right = λ k. h.right (OfNotice e (view_of s.between.store lane under) ∷ k);
          acts_left =
              laws.goes_on (first f) e lane under v (first g) s.between h.left h.acts_left s.left;
          acts_right =
              others.goes_on (second f) e lane under s.between (second g) w h.right h.acts_right
              s.right;
          joined =
              ap (after e (view_of v.store lane under)) h.joined
              ∙ (λ i k. join (h.left (OfNotice e (view_of v.store lane under) ∷ notices_of k))
              (q.history (OfNotice e (view_of v.store lane under) ∷ notices_of k)
              (OfNotice e (view_of s.between.store lane under) ∷ notices_of k) (
                refl,
                views_alike v s.between lane under s.extensions,
                histories_alike
                    (notices_of k),
              ) i));
        };
  }

-- a filter made of one filter takes no setting, and keeps the law of reloading
pub one_reloads : {A C : Type 0} {turn : Behaviour → Behaviour} {has : C → Behaviour → Type 0}
    {acts : A → Conduct → Type 0} (part : C → A)
    → FilterReloadLaws has unreloaded (λ f b. ActsOne turn acts (part f) b)
one_reloads part =
    unreloaded_laws (λ f l b h.
    record {
      inside = h.inside;
      acts_inside = h.acts_inside;
      turned = ap (after_reload l) h.turned;
    })

-- a filter made of two filters takes no setting, and keeps the law of reloading
pub both_reloads : {A B C : Type 0} {join : Behaviour → Behaviour → Behaviour}
    {has : C → Behaviour → Type 0} {acts : A → Conduct → Type 0} {other_acts : B → Conduct → Type 0}
    (first : C → A) (second : C → B)
    → FilterReloadLaws has unreloaded (λ f b. ActsBoth join acts other_acts (first f) (second f) b)
both_reloads first second =
    unreloaded_laws (λ f l b h.
    record {
      left = h.left;
      right = h.right;
      acts_left = h.acts_left;
      acts_right = h.acts_right;
      joined = ap (after_reload l) h.joined;
    })

-- where one of two holds, one of what follows from them holds
pub either : {P Q R S : Type 0} → (P → R) → (Q → S) → P ⊎ Q → R ⊎ S
either f g (inl p) = inl (f p)
either f g (inr q) = inr (g q)
