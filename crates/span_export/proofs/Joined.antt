-- Texts of one element after the other.
use Rattle.std.proofs.Common.{◌≡◌, ◌∙◌, ◌<◌, ◌+◌, ℕ, List, [], ◌∷◌, ◌++◌, ap, flat_map, get_or, length, sym, take}
use Rattle.std.proofs.lemmas.List.{append-nil, take_more}
use Rattle.std.proofs.lemmas.List.Concat.{flat_map-append}

-- the text of one more element is written behind the others
pub one_more_written : {A : Type 0} (f : A → List ℕ) (xs : List A) (i : ℕ) (d : A) (old new one : List ℕ)
    → i < length xs → old ≡ flat_map f (take i xs) → new ≡ old ++ one → one ≡ f (get_or xs i d) → new ≡ flat_map f (take (i + 1) xs)
one_more_written f xs i d old new one within so_far grew same =
    grew ∙ ap (λ t. t ++ one) so_far ∙ ap (λ t. flat_map f (take i xs) ++ t) (same ∙ sym (append-nil (f (get_or xs i d))))
    ∙ sym (ap (flat_map f) (take_more xs i d within) ∙ flat_map-append f (take i xs) (get_or xs i d ∷ []))
