-- How a text is read, part by part.
use Rattle.std.proofs.Common.{◌≡◌, ◌∙◌, ℕ, suc, ◌+◌, ◌<◌, List, [], ◌∷◌, Bool, true, false, cond, not, ◌||◌, length, refl, sym, arith, ⊎_elim}
use Rattle.std.proofs.lemmas.List.Splits.{slice_split_first, slice_split_none}
use Rattle.std.proofs.lemmas.Bool.{cases_eq}
use Rattle.std.proofs.lemmas.List.Sums.{fails_before_first, prefix_len-le-length}
use Rattle.std.specs.List.{after_first, before_first, list_any, position_or_len, slice_split}
use Rattle.std.specs.Prelude.{◌==◌}

abbrev pub comma : ℕ → Bool
comma b = b == 44

-- ---- the parts of a text

pub split_more : (s front back : List ℕ)
    → position_or_len comma s < length s → front ≡ before_first comma s → back ≡ after_first comma s → slice_split comma s ≡ front ∷ slice_split comma back
split_more s front back l f b = slice_split_first comma s 0 l ∙ (λ i. sym f i ∷ slice_split comma (sym b i))

pub split_last : (s : List ℕ) → position_or_len comma s ≡ length s → slice_split comma s ≡ s ∷ []
split_last s e = slice_split_none comma s (λ k d l. fails_before_first comma s k d (omega (arith, e)))

pub some_directive : (s : List ℕ) → (p : List ℕ) × (ps : List (List ℕ)) × (slice_split comma s ≡ p ∷ ps)
some_directive s =
    ⊎_elim
    (λ (e : position_or_len comma s ≡ length s). (s, [], split_last s e))
    (λ (ne : position_or_len comma s ≡ length s → ⊥).
    (before_first comma s, slice_split comma (after_first comma s), slice_split_first comma s 0 (omega (arith, prefix_len-le-length (λ b. not (comma b)) s))))
    (cases_eq (position_or_len comma s) (length s))

-- ---- a byte that is there, or isn't

pub none_there : (p : ℕ → Bool) (s : List ℕ) → position_or_len p s ≡ length s → list_any p s ≡ false
none_there p [] e = refl
none_there p (b ∷ s) e = by (p b) (position_or_len p s) e (none_there p s)
  where
    by : (t : Bool) (k : ℕ) → cond (not t) (1 + k) 0 ≡ suc (length s) → (k ≡ length s → list_any p s ≡ false) → (t || list_any p s) ≡ false
    by true k e h = absurd (omega arith)
    by false k e h = h (omega arith)

pub one_there : (p : ℕ → Bool) (s : List ℕ) → position_or_len p s < length s → list_any p s ≡ true
one_there p [] l = absurd (omega arith)
one_there p (b ∷ s) l = by (p b) (position_or_len p s) l (one_there p s)
  where
    by : (t : Bool) (k : ℕ) → cond (not t) (1 + k) 0 < suc (length s) → (k < length s → list_any p s ≡ true) → (t || list_any p s) ≡ true
    by true k l h = refl
    by false k l h = h (omega arith)
