-- What is written of a line that is handed on.
use Rattle.std.proofs.Common.{◌≡◌, ◌≢◌, ◌<◌, ◌+◌, ◌==◌, inl, inr, ◌∙◌, ℕ, Bool, true, false, not, List, [], ◌∷◌, ◌++◌, Option, length, length-append, take}
use Rattle.std.proofs.Common.{refl, sym, ap, subst, append-nil, append_assoc, arith}
use Rattle.std.proofs.KnownBytes.{Appends-kept, Appends-nil, Appends-trans}
use Rattle.std.proofs.lemmas.Bool.{cases_eq, eq-eqb, ne_eqb}
use Rattle.std.proofs.lemmas.List.{take_at}
use Rattle.std.specs.Io.KnownBytes.{Appends, Keeps}
use Rattle.span_fmt.specs.Outlet.{IsHanded, Takes, mending, next_lost}

-- ---- bytes, as far as they are taken

-- some more are
pub takes_more : (a b c : Option (List ℕ)) (bytes rest front more : List ℕ)
    → Takes a b bytes rest → rest ≡ front ++ more → Appends b c front → Takes a c bytes more
takes_more a b c bytes rest front more t split grown =
    (t.0 ++ front, t.1 ∙ ap (λ (r : List ℕ). t.0 ++ r) split ∙ sym (append_assoc t.0 front more), Appends-trans a b c t.0 front t.2 grown)

-- a call that failed took none
pub kept_none : (a b : Option (List ℕ)) → Keeps a b → Appends a b []
kept_none a b kept = Appends-kept a a b [] (Appends-nil a) kept

-- nothing is gone yet
pub takes_first : (a : Option (List ℕ)) (bytes : List ℕ) → Takes a a bytes bytes
takes_first a bytes = ([], refl, Appends-nil a)

-- ---- a line

-- tests that mean the same
same_tests : (a b c d : ℕ) → (a ≡ b → c ≡ d) → (c ≡ d → a ≡ b) → (a == b) ≡ (c == d)
same_tests a b c d to from = elim (cases_eq a b) [
  | inl e ↦ eq-eqb a b e ∙ sym (eq-eqb c d (to e))
  | inr n ↦ ne_eqb a b n ∙ sym (ne_eqb c d (λ e. n (from e)))
]

module _ (line : List ℕ) (lost : ℕ) where
  -- it is taken whole
  pub handed_whole : (torn : Bool) (done : List ℕ) → line ≢ [] → line ≡ done ++ [] → IsHanded line torn lost (mending torn ++ done) false lost
  handed_whole torn done filled split = record {
    none = λ e. absurd (filled e);
    some = λ f. inl (record { written = ap (λ (t : List ℕ). mending torn ++ t) (sym (split ∙ append-nil done)); edge = refl; counted = refl });
  }

  -- a part of it is taken, behind the end of the last one
  pub handed_part : (torn : Bool) (done left : List ℕ) (within : Bool) → line ≢ [] → line ≡ done ++ left
      → 0 < length left → within ≡ not (length left == length line) → IsHanded line torn lost (mending torn ++ done) within (next_lost lost)
  handed_part torn done left within filled split some is =
      let front = mending torn in
      let a : length line ≡ length done + length left = ap length split ∙ length-append done left in
      let b : length (front ++ done) ≡ length front + length done = length-append front done in
      let c : length (front ++ line) ≡ length front + length line = length-append front line in
      record {
        none = λ e. absurd (filled e);
        some = λ f. inr (record {
          count = length (front ++ done);
          short = omega arith;
          written = sym (ap (take (length (front ++ done))) (ap (λ (t : List ℕ). front ++ t) split ∙ sym (append_assoc front done left))
              ∙ take_at (front ++ done) left (length (front ++ done)) refl);
          edge = is ∙ ap not (same_tests (length left) (length line) (length (front ++ done)) (length front) (λ e. omega arith) (λ e. omega arith));
          counted = refl;
        });
      }

  -- the writer took no line feed in front of it
  pub handed_none : line ≢ [] → IsHanded line true lost [] true (next_lost lost)
  handed_none filled = record {
    none = λ e. absurd (filled e);
    some = λ f. inr (record { count = 0; short = omega (arith, length-append (mending true) line); written = refl; edge = refl; counted = refl });
  }

  -- there is none
  pub handed_empty : (torn : Bool) → line ≡ [] → IsHanded line torn lost [] torn lost
  handed_empty torn e = record { none = λ f. (refl, refl, refl); some = λ filled. absurd (filled e) }

-- a line feed was taken, or it wasn't
pub feed_taken : (a b : Option (List ℕ)) (rest : List ℕ) → Takes a b (10 ∷ []) rest → rest ≡ [] → Appends a b (10 ∷ [])
feed_taken a b rest t e = subst (Appends a b) (sym (t.1 ∙ ap (λ (r : List ℕ). t.0 ++ r) e ∙ append-nil t.0)) t.2

first_empty : (done rest : List ℕ) → (10 ∷ []) ≡ done ++ rest → 0 < length rest → done ≡ []
first_empty [] rest e some = refl
first_empty (b ∷ done) rest e some = absurd (omega (arith, ap length e, length-append (b ∷ done) rest))

pub feed_left : (a b : Option (List ℕ)) (rest : List ℕ) → Takes a b (10 ∷ []) rest → 0 < length rest → Appends a b []
feed_left a b rest t some = subst (Appends a b) (first_empty t.0 rest t.1 some) t.2
