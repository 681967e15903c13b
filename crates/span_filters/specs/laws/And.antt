-- What a filter answers that enables what both parts do is honest and plain where the parts'
-- answers are.
use Rattle.std.specs.Prelude.{◌≡◌, Bool, true, false, ◌&&◌, ◌⊎◌, if◌then◌else◌, nat_le, Option, Some, None, refl}
use Rattle.std.proofs.Common.{inl, inr}
use Rattle.std.proofs.lemmas.Bool.{and_from}
use Rattle.span_core.specs.Level.{filter_number, is_above}
use Rattle.span_core.specs.Metadata.{level_of}
use Rattle.span_core.specs.declared.interest.Interest.TheVariants.{Always, Never, Sometimes}
use Rattle.span_core.specs.declared.interest.Interest.{Interest}
use Rattle.span_core.specs.declared.level.Level.{Level}
use Rattle.span_core.specs.declared.level.LevelFilter.{LevelFilter}
use Rattle.span_filters.specs.Combinator.{and_answers, and_hint, and_interest}
use Rattle.span_filters.specs.laws.Combinator.{either}
use Rattle.span_registry.specs.Behaviour.{AnswerAlike, Behaviour, AreHonest, ArePlain, SameInterestAndHint}

and_always : (i j : Interest) → and_interest i j ≡ Always → (i ≡ Always) × (j ≡ Always)
and_always Never j e = absurd (cc)
and_always Sometimes Always e = absurd (cc)
and_always Sometimes Sometimes e = absurd (cc)
and_always Sometimes Never e = absurd (cc)
and_always Always j e = (refl, e)

and_never : (i j : Interest) → and_interest i j ≡ Never → (i ≡ Never) ⊎ (j ≡ Never)
and_never Never j e = inl refl
and_never Sometimes Always e = absurd (cc)
and_never Sometimes Sometimes e = absurd (cc)
and_never Sometimes Never e = inr refl
and_never Always j e = inr e

one_false : (a b : Bool) → (a ≡ false) ⊎ (b ≡ false) → (a && b) ≡ false
one_false false b p = refl
one_false true b (inl e) = let no : true ≡ false = e in absurd (cc)
one_false true b (inr e) = e

-- a level above the lesser of two hints is above one of them
above_lesser : (l : Level) (f g : LevelFilter) (b : Bool)
    → is_above l (Some (if b then f else g)) ≡ true
    → (is_above l (Some f) ≡ true) ⊎ (is_above l (Some g) ≡ true)
above_lesser l f g true e = inl e
above_lesser l f g false e = inr e

and_above : (l : Level) (h k : Option LevelFilter) → is_above l (and_hint h k) ≡ true
    → (is_above l h ≡ true) ⊎ (is_above l k ≡ true)
and_above l (Some f) (Some g) e = above_lesser l f g (nat_le (filter_number f) (filter_number g)) e
and_above l (Some f) None e = absurd (cc)
and_above l None k e = absurd (cc)

-- the answers are honest where both parts' answers are
pub and_honest : (x y : Behaviour) → AreHonest x → AreHonest y → AreHonest (and_answers x y)
and_honest x y h k = record {
  always =
      λ m v e. let i = and_always (x.interest m) (y.interest m) e in
      and_from (x.enabled m v) (y.enabled m v) (h.always m v i.0) (k.always m v i.1);
  never =
      λ m v e. one_false (x.enabled m v) (y.enabled m v)
      (either (h.never m v) (k.never m v) (and_never (x.interest m) (y.interest m) e));
  above =
      λ m v e. one_false (x.enabled m v) (y.enabled m v)
      (either (h.above m v) (k.above m v) (and_above (level_of m) x.hint y.hint e));
  alike = λ m n e i. and_interest (h.alike m n e i) (k.alike m n e i);
}

-- interest and hint stay where both parts' do
pub and_same : (x y u w : Behaviour) → SameInterestAndHint x u → SameInterestAndHint y w
    → SameInterestAndHint (and_answers x y) (and_answers u w)
and_same x y u w s t = record {
  interest = λ i m. and_interest (s.interest i m) (t.interest i m);
  hint = λ i. and_hint (s.hint i) (t.hint i);
}

-- the answers are plain where both parts' answers are
pub and_plain : (x y : Behaviour) → ArePlain x → ArePlain y → ArePlain (and_answers x y)
and_plain x y p q = record {
  enabled = λ m v w e i. p.enabled m v w e i && q.enabled m v w e i;
  event = λ n v w e i. p.event n v w e i && q.event n v w e i;
}

-- the answers are alike where both parts' answers are
pub and_alike : (x y u w : Behaviour) → AnswerAlike x u → AnswerAlike y w
    → AnswerAlike (and_answers x y) (and_answers u w)
and_alike x y u w h k = record {
  enabled = λ m s lane mask i. h.enabled m s lane mask i && k.enabled m s lane mask i;
  event = λ e s lane mask i. h.event e s lane mask i && k.event e s lane mask i;
}
