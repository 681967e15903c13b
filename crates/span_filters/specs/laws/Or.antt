-- What a filter answers that enables what either part does is honest and plain where the parts'
-- answers are.
use Rattle.std.specs.Prelude.{◌≡◌, ℕ, Bool, true, false, not, ◌||◌, ◌⊎◌, if◌then◌else◌, nat_le, Option, Some, None, refl}
use Rattle.std.proofs.lemmas.Bool.Decides.{nat_tests}
use Rattle.std.proofs.Common.{arith, inl, inr}
use Rattle.std.proofs.lemmas.Bool.{or_from}
use Rattle.span_core.specs.Level.{filter_number, is_above, level_number}
use Rattle.span_core.specs.Metadata.{level_of}
use Rattle.span_core.specs.declared.interest.Interest.TheVariants.{Always, Never, Sometimes}
use Rattle.span_core.specs.declared.interest.Interest.{Interest}
use Rattle.span_core.specs.declared.level.Level.{Level}
use Rattle.span_core.specs.declared.level.LevelFilter.{LevelFilter}
use Rattle.span_filters.specs.Combinator.{or_answers, or_hint, or_interest}
use Rattle.span_filters.specs.laws.Combinator.{either}
use Rattle.span_registry.specs.Behaviour.{AnswerAlike, Behaviour, AreHonest, ArePlain, SameInterestAndHint}

or_always : (i j : Interest) → or_interest i j ≡ Always → (i ≡ Always) ⊎ (j ≡ Always)
or_always Always j e = inl refl
or_always Sometimes Always e = inr refl
or_always Sometimes Sometimes e = absurd (cc)
or_always Sometimes Never e = absurd (cc)
or_always Never j e = inr e

or_never : (i j : Interest) → or_interest i j ≡ Never → (i ≡ Never) × (j ≡ Never)
or_never Always j e = absurd (cc)
or_never Sometimes Always e = absurd (cc)
or_never Sometimes Sometimes e = absurd (cc)
or_never Sometimes Never e = absurd (cc)
or_never Never j e = (refl, e)

one_true : (a b : Bool) → (a ≡ true) ⊎ (b ≡ true) → (a || b) ≡ true
one_true true b p = refl
one_true false b (inl e) = let no : false ≡ true = e in absurd (cc)
one_true false b (inr e) = e

-- a level above the greater of two hints is above both
further : (n f g : ℕ) → nat_le f g ≡ true → not (nat_le n g) ≡ true → not (nat_le n f) ≡ true
further n f g p q = grind (arith, nat_tests)

further_less : (n f g : ℕ) → nat_le f g ≡ false → not (nat_le n f) ≡ true → not (nat_le n g) ≡ true
further_less n f g p q = grind (arith, nat_tests)

above_greater : (l : Level) (f g : LevelFilter) (b : Bool)
    → nat_le (filter_number f) (filter_number g) ≡ b → is_above l (Some (if b then g else f)) ≡ true
    → (is_above l (Some f) ≡ true) × (is_above l (Some g) ≡ true)
above_greater l f g true p e = (further (level_number l) (filter_number f) (filter_number g) p e, e)
above_greater l f g false p e =
    (e, further_less (level_number l) (filter_number f) (filter_number g) p e)

or_above : (l : Level) (h k : Option LevelFilter) → is_above l (or_hint h k) ≡ true
    → (is_above l h ≡ true) × (is_above l k ≡ true)
or_above l (Some f) (Some g) e =
    above_greater l f g (nat_le (filter_number f) (filter_number g)) refl e
or_above l (Some f) None e = absurd (cc)
or_above l None k e = absurd (cc)

-- the answers are honest where both parts' answers are
pub or_honest : (x y : Behaviour) → AreHonest x → AreHonest y → AreHonest (or_answers x y)
or_honest x y h k = record {
  always =
      λ m v e. one_true (x.enabled m v) (y.enabled m v)
      (either (h.always m v) (k.always m v) (or_always (x.interest m) (y.interest m) e));
  never =
      λ m v e. let i = or_never (x.interest m) (y.interest m) e in
      or_from (x.enabled m v) (y.enabled m v) (h.never m v i.0) (k.never m v i.1);
  above =
      λ m v e. let i = or_above (level_of m) x.hint y.hint e in
      or_from (x.enabled m v) (y.enabled m v) (h.above m v i.0) (k.above m v i.1);
  alike = λ m n e i. or_interest (h.alike m n e i) (k.alike m n e i);
}

-- interest and hint stay where both parts' do
pub or_same : (x y u w : Behaviour) → SameInterestAndHint x u → SameInterestAndHint y w
    → SameInterestAndHint (or_answers x y) (or_answers u w)
or_same x y u w s t = record {
  interest = λ i m. or_interest (s.interest i m) (t.interest i m);
  hint = λ i. or_hint (s.hint i) (t.hint i);
}

-- the answers are plain where both parts' answers are
pub or_plain : (x y : Behaviour) → ArePlain x → ArePlain y → ArePlain (or_answers x y)
or_plain x y p q = record {
  enabled = λ m v w e i. p.enabled m v w e i || q.enabled m v w e i;
  event = λ n v w e i. p.event n v w e i || q.event n v w e i;
}

-- the answers are alike where both parts' answers are
pub or_alike : (x y u w : Behaviour) → AnswerAlike x u → AnswerAlike y w
    → AnswerAlike (or_answers x y) (or_answers u w)
or_alike x y u w h k = record {
  enabled = λ m s lane mask i. h.enabled m s lane mask i || k.enabled m s lane mask i;
  event = λ e s lane mask i. h.event e s lane mask i || k.event e s lane mask i;
}
