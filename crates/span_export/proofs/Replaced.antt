-- A text in which a byte is written in another way.
use Rattle.std.proofs.Common.{◌≡◌, ◌≢◌, ◌∙◌, ◌<◌, ℕ, suc, List, [], ◌∷◌, ◌++◌, length, get_or, ap, refl, sym, append_assoc, arith}
use Rattle.std.specs.Prelude.{◌==◌, if◌then◌else◌}
use Rattle.std.proofs.lemmas.Bool.Decides.{nat_tests}
use Rattle.std.proofs.lemmas.List.Concat.{flat_map-append}
use Rattle.span_export.specs.Escape.{replace}

-- each other byte is kept
kept : (byte b : ℕ) (so : List ℕ) → b ≢ byte → (if b == byte then so else b ∷ []) ≡ b ∷ []
kept byte b so other = grind (arith, nat_tests)

found : (byte : ℕ) (so : List ℕ) → (if byte == byte then so else byte ∷ []) ≡ so
found byte so = grind (arith, nat_tests)

-- the byte isn't among these
abbrev pub IsAbsent : ℕ → List ℕ → Type 0
IsAbsent byte bytes = (i : ℕ) → i < length bytes → get_or bytes i 0 ≢ byte

-- then they stay as they are
pub same : (byte : ℕ) (so bytes : List ℕ) → IsAbsent byte bytes → replace byte so bytes ≡ bytes
same byte so [] none = refl
same byte so (b ∷ bytes) none =
    let here : b ≢ byte = none 0 (omega arith) in
    ap (λ (t : List ℕ). t ++ replace byte so bytes) (kept byte b so here)
    ∙ ap (λ (t : List ℕ). b ∷ t) (same byte so bytes (λ i less. none (suc i) (omega arith)))

-- the first is written so, and what is behind it follows
cut : (byte : ℕ) (so bytes front back : List ℕ)
    → bytes ≡ front ++ (byte ∷ back) → IsAbsent byte front → replace byte so bytes ≡ front ++ (so ++ replace byte so back)
cut byte so bytes front back e none =
    ap (replace byte so) e ∙ flat_map-append (λ b. if b == byte then so else b ∷ []) front (byte ∷ back)
    ∙ ap (λ (t : List ℕ). t ++ replace byte so (byte ∷ back)) (same byte so front none)
    ∙ ap (λ (t : List ℕ). front ++ (t ++ replace byte so back)) (found byte so)

-- a part and the byte behind it are written, and what is left is behind them
pub cut_written : (byte : ℕ) (so text old mid new rest front back : List ℕ)
    → mid ≡ old ++ front → new ≡ mid ++ so → rest ≡ front ++ (byte ∷ back) → IsAbsent byte front → old ++ replace byte so rest ≡ replace byte so text
    → new ++ replace byte so back ≡ replace byte so text
cut_written byte so text old mid new rest front back first second e none so_far =
    ap (λ (t : List ℕ). t ++ replace byte so back) (second ∙ ap (λ (t : List ℕ). t ++ so) first)
    ∙ append_assoc (old ++ front) so (replace byte so back)
    ∙ append_assoc old front (so ++ replace byte so back)
    ∙ ap (λ (t : List ℕ). old ++ t) (sym (cut byte so rest front back e none))
    ∙ so_far
