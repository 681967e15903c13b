-- A set is known by its members.
use Rattle.std.proofs.Common.{◌≡◌, ℕ, ◌<◌, ◌^◌, subst, ap}
use Rattle.std.proofs.Props.{props}
use Rattle.span_core.specs.declared.number_set.NumberSet.{NumberSet}
use Rattle.span_core.specs.NumberSet.{has_number}
use Rattle.span_core.proofs.Words.{same_words}

-- sets whose words are equal
same_bits : (a b : NumberSet) → a.bits ≡ b.bits → a ≡ b
same_bits a b e =
    let P : ℕ → Type 0 = λ word. (g : word < 2 ^ 128) → a ≡ record { bits = word; fits = g } in
    let here : P a.bits =
    λ g. let proof : a.fits ≡ g = hlevel props in ap (λ (f : a.bits < 2 ^ 128). let s : NumberSet = record { bits = a.bits; fits = f } in s) proof in
    subst P e here b.fits

-- sets with the same members below the limit
pub same_numbers : (a b : NumberSet) → ((n : ℕ) → n < 128 → has_number a n ≡ has_number b n) → a ≡ b
same_numbers a b h = same_bits a b (same_words a.bits b.bits a.fits b.fits h)
