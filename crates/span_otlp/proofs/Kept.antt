-- Lists that grow by what there is.
use Rattle.std.proofs.Common.{◌≡◌, ◌∙◌, ◌<◌, ◌+◌, ℕ, List, [], ◌∷◌, ◌++◌, Option, None, Some, ap, filter_map, get_or, length, map, refl, sym, take}
use Rattle.std.specs.List.{cons_option}
use Rattle.std.specs.Option.{option_map, option_to_list}
use Rattle.std.proofs.lemmas.List.{map-append, take_more}
use Rattle.std.proofs.lemmas.List.Elements.{filter_map-append}

one : {A B : Type 0} (f : A → Option B) (x : A) (o : Option B) → f x ≡ o → filter_map f (x ∷ []) ≡ option_to_list o
one f x None e = ap (λ o. cons_option o []) e
one f x (Some y) e = ap (λ o. cons_option o []) e

pub seen_one : {V B : Type 0} (view : V → B) (o : Option V) → map view (option_to_list o) ≡ option_to_list (option_map view o)
seen_one view None = refl
seen_one view (Some x) = refl

-- one more element was looked at, and what it gives, if anything, was put behind the others
pub keeps_one_more : {A B V : Type 0} (view : V → B) (f : A → Option B) (xs : List A) (i : ℕ) (d : A) (old new : List V) (o : Option V)
    → i < length xs → option_map view o ≡ f (get_or xs i d) → new ≡ old ++ option_to_list o → map view old ≡ filter_map f (take i xs)
    → map view new ≡ filter_map f (take (i + 1) xs)
keeps_one_more view f xs i d old new o within e grew so_far =
    let given = one f (get_or xs i d) (option_map view o) (sym e) in
    ap (map view) grew ∙ map-append view old (option_to_list o)
    ∙ ap (λ ys. ys ++ map view (option_to_list o)) so_far ∙ ap (λ ys. filter_map f (take i xs) ++ ys) (seen_one view o ∙ sym given)
    ∙ sym (ap (filter_map f) (take_more xs i d within) ∙ filter_map-append f (take i xs) (get_or xs i d ∷ []))

-- one more element was looked at, and what it gives, if anything, stands behind the others
pub one_more_kept : {A B : Type 0} (f : A → Option B) (xs : List A) (i : ℕ) (d : A) (o : Option B)
    → i < length xs → o ≡ f (get_or xs i d) → filter_map f (take i xs) ++ option_to_list o ≡ filter_map f (take (i + 1) xs)
one_more_kept f xs i d o within e =
    ap (λ ys. filter_map f (take i xs) ++ ys) (sym (one f (get_or xs i d) o (sym e)))
    ∙ sym (ap (filter_map f) (take_more xs i d within) ∙ filter_map-append f (take i xs) (get_or xs i d ∷ []))
