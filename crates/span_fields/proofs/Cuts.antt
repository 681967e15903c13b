-- A text on both sides of a byte, and the levels that a text names.
use Rattle.std.proofs.Common.{◌≡◌, ◌∙◌, ◌+◌, ◌<◌, ◌↔◌, ◌||◌, ℕ, suc, Bool, true, false, cond, not, List, [], ◌∷◌, None, Option, Some, Err, arith, length, refl}
use Rattle.std.proofs.Common.{sym}
use Rattle.std.proofs.lemmas.Bool.{cond-false, cond-true}
use Rattle.std.specs.Borrow.{Bor}
use Rattle.std.specs.List.{after_first, before_first, list_any, position_or_len}
use Rattle.std.specs.Prelude.{◌==◌, MatchOption}
use Rattle.span_core.specs.LevelText.{IsFilterText}
use Rattle.span_core.specs.declared.level.LevelFilter.{LevelFilter}
use Rattle.span_fields.specs.Text.{cut, known_level}
use Rattle.span_fields.specs.declared.error.FieldError.TheVariants.{UnknownLevel}
use Rattle.span_fields.specs.private.Read.{ReadsCut}
use Rattle.span_targets.specs.Text.{level_named}

none_there : (p : ℕ → Bool) (s : List ℕ) → position_or_len p s ≡ length s → list_any p s ≡ false
none_there p [] e = refl
none_there p (b ∷ s) e = by (p b) (position_or_len p s) e (none_there p s)
  where
    by : (t : Bool) (k : ℕ) → cond (not t) (1 + k) 0 ≡ suc (length s) → (k ≡ length s → list_any p s ≡ false) → (t || list_any p s) ≡ false
    by true k e h = absurd (omega arith)
    by false k e h = h (omega arith)

one_there : (p : ℕ → Bool) (s : List ℕ) → position_or_len p s < length s → list_any p s ≡ true
one_there p [] l = absurd (omega arith)
one_there p (b ∷ s) l = by (p b) (position_or_len p s) l (one_there p s)
  where
    by : (t : Bool) (k : ℕ) → cond (not t) (1 + k) 0 < suc (length s) → (k < length s → list_any p s ≡ true) → (t || list_any p s) ≡ true
    by true k l h = refl
    by false k l h = h (omega arith)

pub cut_there : (b : ℕ) (s : List ℕ) (o : Option (Bor (List ℕ) × Bor (List ℕ)))
    → MatchOption o (position_or_len (λ c. c == b) s ≡ length s)
    (λ x. (position_or_len (λ c. c == b) s < length s) × (x.0.now ≡ before_first (λ c. c == b) s) × (x.1.now ≡ after_first (λ c. c == b) s))
    → ReadsCut (cut b s) o
cut_there b s None e = sym (cond-false _ _ _ (none_there (λ c. c == b) s e))
cut_there b s (Some x) e = (λ i. Some (e.1 i, e.2 i)) ∙ sym (cond-true _ _ _ (one_there (λ c. c == b) s e.0))

by_cases : (o : Option LevelFilter) → ((l : LevelFilter) → o ≡ Some l → ⊥) → known_level o ≡ Err UnknownLevel
by_cases None h = refl
by_cases (Some l) h = absurd (h l refl)

pub named_err : (s : List ℕ) → ((l : LevelFilter) → (level_named s ≡ Some l) ↔ IsFilterText s l) → ((l : LevelFilter) → IsFilterText s l → ⊥)
    → known_level (level_named s) ≡ Err UnknownLevel
named_err s h none = by_cases (level_named s) (λ l e. none l ((h l).0 e))
