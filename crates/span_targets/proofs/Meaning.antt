-- What a directive means, by the two sides of its first `=`, or as a whole.
use Rattle.std.proofs.Common.{◌≡◌, ◌∙◌, ℕ, ◌<◌, List, Bool, length, sym}
use Rattle.std.proofs.lemmas.Bool.{cond-false, cond-true}
use Rattle.std.specs.List.{after_first, before_first, position_or_len}
use Rattle.std.specs.Prelude.{◌==◌}
use Rattle.span_targets.proofs.Reading.{none_there, one_there}
use Rattle.span_targets.specs.Text.{alone, level_named, meaning, sides}

abbrev pub equals : ℕ → Bool
equals b = b == 61

pub meaning_of_sides : (s t w : List ℕ) → position_or_len equals s < length s → t ≡ before_first equals s → w ≡ after_first equals s → meaning s ≡ sides t w
meaning_of_sides s t w l e f = cond-true _ _ _ (one_there equals s l) ∙ (λ i. sides (sym e i) (sym f i))

pub meaning_alone : (s : List ℕ) → position_or_len equals s ≡ length s → meaning s ≡ alone s (level_named s)
meaning_alone s e = cond-false _ _ _ (none_there equals s e)
