-- A text without the space in front of it.
use Rattle.std.proofs.Common.{◌≡◌, ◌≢◌, ℕ, List, [], ◌∷◌, Option, Some, None, ap, refl, sym, arith}
use Rattle.std.specs.Borrow.{Bor}
use Rattle.std.specs.Option.{MatchOption, unwrap_or}
use Rattle.std.proofs.lemmas.Bool.Decides.{nat_tests}
use Rattle.span_fmt.specs.Lines.{bare}

-- what doesn't begin with a space stays
kept : (b : ℕ) (bytes : List ℕ) → b ≢ 32 → bare (b ∷ bytes) ≡ b ∷ bytes
kept b bytes other = grind (arith, nat_tests)

unspaced : (bytes : List ℕ) → ((rest : List ℕ) → bytes ≢ (32 ∷ rest)) → bare bytes ≡ bytes
unspaced [] none = refl
unspaced (b ∷ bytes) none = kept b bytes (λ (e : b ≡ 32). none bytes (ap (λ (x : ℕ). x ∷ bytes) e))

-- what `strip_prefix` leaves
pub bared : (text : Bor (List ℕ)) (found : Option (Bor (List ℕ)))
    → MatchOption found ((rest : List ℕ) → text.now ≢ (32 ∷ rest)) (λ x. text.now ≡ 32 ∷ x.now) → (unwrap_or found text).now ≡ bare text.now
bared text None none = sym (unspaced text.now none)
bared text (Some rest) split = sym (ap bare split)
