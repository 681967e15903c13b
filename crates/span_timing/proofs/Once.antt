-- Numbers, each once.
use Rattle.std.proofs.Common.{◌≡◌, ◌∙◌, ◌==◌, ◌||◌, ℕ, Bool, true, false, not, List, [], ◌∷◌, ◌++◌, ap, append-nil, refl, subst, sym, if◌then◌else◌}
use Rattle.std.proofs.lemmas.Bool.Decides.{nat_tests}
use Rattle.std.proofs.Common.{arith}
use Rattle.std.proofs.lemmas.List.Elements.{filter-append}
use Rattle.std.proofs.lemmas.Map.Views.{any-filter_same}
use Rattle.std.specs.List.{filter, list_any}
use Rattle.span_timing.specs.Text.{each_once}

-- whether a number is among others
abbrev pub is_in : ℕ → List ℕ → Bool
is_in n ns = list_any (λ y. y == n) ns

-- one more number behind others, unless it is among them
abbrev pub with_one : List ℕ → ℕ → List ℕ
with_one ns n = if is_in n ns then ns else ns ++ n ∷ []

-- the others than a number
abbrev others : ℕ → List ℕ → List ℕ
others m ns = filter (λ k. not (k == m)) ns

other_kept : (m n k : ℕ) → (m == n) ≡ false → (k == n) ≡ true → not (k == m) ≡ true
other_kept m n k apart same = grind (arith, nat_tests)

none_put : (m n : ℕ) → (m == n) ≡ true → others m (n ∷ []) ≡ []
none_put m n same = let out : not (n == m) ≡ false = grind (arith, nat_tests) in ap (λ b. if b then n ∷ [] else []) out

one_put : (m n : ℕ) → (m == n) ≡ false → others m (n ∷ []) ≡ n ∷ []
one_put m n apart = let kept : not (n == m) ≡ true = grind (arith, nat_tests) in ap (λ b. if b then n ∷ [] else []) kept

-- whether it is among a number and the others than that
among : (m n : ℕ) (ns : List ℕ) → (m == n) ≡ false → is_in n (m ∷ others m ns) ≡ is_in n ns
among m n ns apart =
    ap (λ b. b || is_in n (others m ns)) apart
    ∙ any-filter_same (λ (y : ℕ). y == n) (λ k. not (k == m)) true (λ k same. other_kept m n k apart same) ns

-- with a number and the others than that
behind_others : (m n : ℕ) (ns : List ℕ) (same found : Bool) → (m == n) ≡ same → is_in n ns ≡ found
    → m ∷ others m (if found then ns else ns ++ n ∷ []) ≡ with_one (m ∷ others m ns) n
behind_others m n ns true true same found =
    sym (ap (λ b. if b || is_in n (others m ns) then m ∷ others m ns else (m ∷ others m ns) ++ n ∷ []) same)
behind_others m n ns true false same found =
    ap (λ xs. m ∷ xs) (filter-append (λ (k : ℕ). not (k == m)) ns (n ∷ []) ∙ ap (λ xs. others m ns ++ xs) (none_put m n same) ∙ append-nil (others m ns))
    ∙ sym (ap (λ b. if b || is_in n (others m ns) then m ∷ others m ns else (m ∷ others m ns) ++ n ∷ []) same)
behind_others m n ns false true apart found =
    sym (ap (λ b. if b then m ∷ others m ns else (m ∷ others m ns) ++ n ∷ []) (among m n ns apart ∙ found))
behind_others m n ns false false apart found =
    ap (λ xs. m ∷ xs) (filter-append (λ (k : ℕ). not (k == m)) ns (n ∷ []) ∙ ap (λ xs. others m ns ++ xs) (one_put m n apart))
    ∙ sym (ap (λ b. if b then m ∷ others m ns else (m ∷ others m ns) ++ n ∷ []) (among m n ns apart ∙ found))

pub each_once_push : (ns : List ℕ) (n : ℕ) → each_once (ns ++ n ∷ []) ≡ with_one (each_once ns) n
each_once_push [] n = refl
each_once_push (m ∷ ns) n = ap (λ xs. m ∷ others m xs) (each_once_push ns n) ∙ behind_others m n (each_once ns) (m == n) (is_in n (each_once ns)) refl refl
