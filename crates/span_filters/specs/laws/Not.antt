-- What a filter answers that enables what its part refuses is honest and plain where the part's
-- answers are.
use Rattle.std.specs.Prelude.{◌≡◌, not, refl}
use Rattle.std.proofs.Common.{ap}
use Rattle.std.proofs.lemmas.Bool.{not_from_false, not_from_true}
use Rattle.span_core.specs.declared.interest.Interest.TheVariants.{Always, Never, Sometimes}
use Rattle.span_core.specs.declared.interest.Interest.{Interest}
use Rattle.span_filters.specs.Combinator.{not_answers, not_interest}
use Rattle.span_registry.specs.Behaviour.{AnswerAlike, Behaviour, AreHonest, ArePlain, SameInterestAndHint}

turned_always : (i : Interest) → not_interest i ≡ Always → i ≡ Never
turned_always Always e = absurd (cc)
turned_always Sometimes e = absurd (cc)
turned_always Never e = refl

turned_never : (i : Interest) → not_interest i ≡ Never → i ≡ Always
turned_never Always e = refl
turned_never Sometimes e = absurd (cc)
turned_never Never e = absurd (cc)

-- the answers are honest where the part's answers are
pub not_honest : (x : Behaviour) → AreHonest x → AreHonest (not_answers x)
not_honest x h = record {
  always = λ m v e. not_from_false (x.enabled m v) (h.never m v (turned_always (x.interest m) e));
  never = λ m v e. not_from_true (x.enabled m v) (h.always m v (turned_never (x.interest m) e));
  above = λ m v e. absurd (cc);
  alike = λ m k e. ap not_interest (h.alike m k e);
}

-- interest and hint stay where the part's do
pub not_same : (x y : Behaviour) → SameInterestAndHint x y
    → SameInterestAndHint (not_answers x) (not_answers y)
not_same x y s = record { interest = λ i m. not_interest (s.interest i m); hint = refl }

-- the answers are plain where the part's answers are
pub not_plain : (x : Behaviour) → ArePlain x → ArePlain (not_answers x)
not_plain x p = record { enabled = λ m v w e. ap not (p.enabled m v w e); event = λ e v w d. refl }

-- the answers are alike where the part's answers are
pub not_alike : (x y : Behaviour) → AnswerAlike x y → AnswerAlike (not_answers x) (not_answers y)
not_alike x y h = record {
  enabled = λ m s lane mask. ap not (h.enabled m s lane mask);
  event = λ e s lane mask. refl;
}
