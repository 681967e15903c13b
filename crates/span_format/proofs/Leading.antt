-- A text without a character in front of it.
use Rattle.std.proofs.Common.{◌≡◌, ◌≢◌, ℕ, List, [], ◌∷◌, Option, Some, None, ◌∙◌, ap, refl, sym, arith}
use Rattle.std.proofs.lemmas.Bool.Decides.{nat_tests}
use Rattle.std.specs.Borrow.{Bor}
use Rattle.std.specs.Option.{MatchOption, unwrap_or}
use Rattle.span_format.specs.Field.{bare}

-- what doesn't begin so stays
kept : (lead b : ℕ) (bytes : List ℕ) → b ≢ lead → bare lead (b ∷ bytes) ≡ b ∷ bytes
kept lead b bytes other = grind (arith, nat_tests)

-- what does loses it
lost : (lead : ℕ) (bytes : List ℕ) → bare lead (lead ∷ bytes) ≡ bytes
lost lead bytes = grind (arith, nat_tests)

unled : (lead : ℕ) (bytes : List ℕ) → ((rest : List ℕ) → bytes ≢ (lead ∷ rest)) → bare lead bytes ≡ bytes
unled lead [] none = refl
unled lead (b ∷ bytes) none = kept lead b bytes (λ (e : b ≡ lead). none bytes (ap (λ (x : ℕ). x ∷ bytes) e))

-- what `strip_prefix` leaves
pub bared : (lead : ℕ) (text : Bor (List ℕ)) (found : Option (Bor (List ℕ)))
    → MatchOption found ((rest : List ℕ) → text.now ≢ (lead ∷ rest)) (λ x. text.now ≡ lead ∷ x.now) → (unwrap_or found text).now ≡ bare lead text.now
bared lead text None none = sym (unled lead text.now none)
bared lead text (Some rest) split = sym (ap (bare lead) split ∙ lost lead rest.now)
