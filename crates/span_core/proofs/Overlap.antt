-- Lists of at most 2k elements, by their first k and their last k.
use Rattle.std.proofs.Common.{◌≡◌, ℕ, ◌+◌, ◌-◌, ◌≤◌, List, ◌++◌, take, drop, ap, sym, ◌∙◌, arith}
use Rattle.std.proofs.lemmas.List.{drop-drop, take-append-drop}

-- a list is its first k elements, and what the last k have beyond those
joined : (k n : ℕ) (xs : List ℕ) → n ≤ k + k → take k xs ++ drop (k - (n - k)) (drop (n - k) xs) ≡ xs
joined k n xs l =
    let past : n - k + (k - (n - k)) ≡ k = omega arith in
    ap (λ r. take k xs ++ r) (drop-drop (k - (n - k)) (n - k) xs ∙ ap (λ i. drop i xs) past) ∙ take-append-drop k xs

-- two lists with the same first k and the same last k are the same
pub same_by_ends : (k n : ℕ) (xs ys : List ℕ) → n ≤ k + k → take k xs ≡ take k ys → drop (n - k) xs ≡ drop (n - k) ys → xs ≡ ys
same_by_ends k n xs ys l first last =
    sym (joined k n xs l)
    ∙ ap (λ f. f ++ drop (k - (n - k)) (drop (n - k) xs)) first
    ∙ ap (λ r. take k ys ++ drop (k - (n - k)) r) last
    ∙ joined k n ys l
