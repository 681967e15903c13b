-- Names that are written one by one.
use Rattle.std.proofs.Common.{◌≡◌, ◌∙◌, ◌<◌, ◌+◌, ℕ, List, ◌++◌, ap, append_assoc, drop, flat_map, get_or, length, map, sym}
use Rattle.std.proofs.lemmas.List.{drop_more}

-- one more name is written, behind a semicolon
pub one_more_name : {A : Type 0} (sep : List ℕ) (name : A → List ℕ) (xs : List A) (i : ℕ) (d : A) (old mid new whole : List ℕ)
    → i < length xs → mid ≡ old ++ sep → new ≡ mid ++ name (get_or xs i d)
    → old ++ flat_map (λ n. sep ++ n) (map name (drop i xs)) ≡ whole → new ++ flat_map (λ n. sep ++ n) (map name (drop (i + 1) xs)) ≡ whole
one_more_name sep name xs i d old mid new whole within first second so_far =
    let rest = flat_map (λ n. sep ++ n) (map name (drop (i + 1) xs)) in
    ap (λ t. t ++ rest) (second ∙ ap (λ t. t ++ name (get_or xs i d)) first)
    ∙ append_assoc (old ++ sep) (name (get_or xs i d)) rest ∙ append_assoc old sep (name (get_or xs i d) ++ rest)
    ∙ ap (λ t. old ++ t) (sym (append_assoc sep (name (get_or xs i d)) rest))
    ∙ sym (ap (λ ys. old ++ flat_map (λ n. sep ++ n) (map name ys)) (drop_more xs i d within)) ∙ so_far
