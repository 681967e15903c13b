-- The stay that ends.
use Rattle.std.proofs.Common.{◌≡◌, ◌∙◌, ◌<◌, ℕ, zero, suc, Bool, true, false, List, [], ◌∷◌, Some, ap, arith, drop, get_or, length, refl, set, sym}
use Rattle.std.proofs.Common.{if◌then◌else◌, ◌||◌}
use Rattle.std.specs.List.{list_any}
use Rattle.span_export.specs.Picture.{ended, lasts_in}
use Rattle.span_export.specs.declared.stay.Stay.{Stay}

either : (a b : Bool) → b ≡ true → a || b ≡ true
either true b e = refl
either false b e = e

-- one of them passes
some_pass : (p : Stay → Bool) (i : ℕ) (stays : List Stay) (d : Stay) → i < length stays → p (get_or stays i d) ≡ true → list_any p stays ≡ true
some_pass p i [] d within e = absurd (omega arith)
some_pass p zero (s ∷ stays) d within e = ap (λ b. b || list_any p stays) e
some_pass p (suc i) (s ∷ stays) d within e = either (p s) (list_any p stays) (some_pass p i stays d (omega arith) e)

-- the last that passes is the one that ends
pub ended_here : (lane x time i : ℕ) (stays : List Stay) (d : Stay)
    → i < length stays → lasts_in lane x (get_or stays i d) ≡ true → list_any (lasts_in lane x) (drop (suc i) stays) ≡ false
    → set stays i (record (get_or stays i d) { left = Some time }) ≡ ended lane x time stays
ended_here lane x time i [] d within here none = absurd (omega arith)
ended_here lane x time zero (s ∷ stays) d within here none =
    sym (ap (λ b. if b then s ∷ ended lane x time stays else if lasts_in lane x s then record s { left = Some time } ∷ stays else s ∷ stays) none
    ∙ ap (λ b. if b then record s { left = Some time } ∷ stays else s ∷ stays) here)
ended_here lane x time (suc i) (s ∷ stays) d within here none =
    ap (λ ss. s ∷ ss) (ended_here lane x time i stays d (omega arith) here none)
    ∙ sym (ap (λ b. if b then s ∷ ended lane x time stays else if lasts_in lane x s then record s { left = Some time } ∷ stays else s ∷ stays)
    (some_pass (lasts_in lane x) i stays d (omega arith) here))

first_not : (a b : Bool) → a || b ≡ false → a ≡ false
first_not true b e = e
first_not false b e = refl

later_not : (a b : Bool) → a || b ≡ false → b ≡ false
later_not true b e = cc
later_not false b e = e

-- where none passes, none ends
pub none_ended : (lane x time : ℕ) (stays : List Stay) → list_any (lasts_in lane x) stays ≡ false → stays ≡ ended lane x time stays
none_ended lane x time [] none = refl
none_ended lane x time (s ∷ stays) none =
    let here = first_not (lasts_in lane x s) (list_any (lasts_in lane x) stays) none in
    let later = later_not (lasts_in lane x s) (list_any (lasts_in lane x) stays) none in
    sym (ap (λ b. if b then s ∷ ended lane x time stays else if lasts_in lane x s then record s { left = Some time } ∷ stays else s ∷ stays) later
    ∙ ap (λ b. if b then record s { left = Some time } ∷ stays else s ∷ stays) here)
