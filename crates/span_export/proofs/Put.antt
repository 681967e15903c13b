-- Fields that are put, one by one.
use Rattle.std.proofs.Common.{◌≡◌, ◌∙◌, ◌<◌, ◌≤◌, ◌+◌, ◌||◌, ℕ, zero, suc, arith, Bool, true, false, List, [], ◌∷◌, ◌++◌, ap, append_assoc, drop, flat_map}
use Rattle.std.proofs.Common.{get_or, if◌then◌else◌, length, map, refl, set, sym, take}
use Rattle.std.specs.List.{list_any}
use Rattle.std.specs.Str.{bytes_eq}
use Rattle.std.proofs.lemmas.List.{append-nil, drop_all, drop_more, map-append, take_all, take_more}
use Rattle.std.proofs.lemmas.List.Concat.{flat_map-append}
use Rattle.span_export.specs.Site.{put_field}
use Rattle.span_times.specs.Field.{FieldSaid}

-- where a field of this name is, the new one takes its place
pub put_here : (f : FieldSaid) (gs : List FieldSaid) (i : ℕ) (d : FieldSaid)
    → i < length gs → bytes_eq (get_or gs i d).0 f.0 ≡ true → put_field f gs ≡ take i gs ++ put_field f (drop i gs) → set gs i f ≡ put_field f gs
put_here f gs i d within here so_far =
    set_splits gs i f within ∙ (let next : suc i ≡ i + 1 = omega arith in ap (λ (n : ℕ). take i gs ++ f ∷ drop n gs) next)
    ∙ ap (λ hs. take i gs ++ hs)
    (sym (ap (put_field f) (drop_more gs i d within)
    ∙ ap (λ b. if b then f ∷ drop (i + 1) gs else get_or gs i d ∷ put_field f (drop (i + 1) gs)) here))
    ∙ sym so_far
  where
    set_splits : (xs : List FieldSaid) (i : ℕ) (y : FieldSaid) → i < length xs → set xs i y ≡ take i xs ++ y ∷ drop (suc i) xs
    set_splits [] i y h = absurd (omega (arith, h))
    set_splits (x ∷ xs) zero y h = refl
    set_splits (x ∷ xs) (suc i) y h = ap (λ ys. x ∷ ys) (set_splits xs i y (omega (arith, h)))

-- where it isn't, it is looked for behind
pub put_behind : (f : FieldSaid) (gs : List FieldSaid) (i : ℕ) (d : FieldSaid)
    → i < length gs → bytes_eq (get_or gs i d).0 f.0 ≡ false
    → put_field f gs ≡ take i gs ++ put_field f (drop i gs) → put_field f gs ≡ take (i + 1) gs ++ put_field f (drop (i + 1) gs)
put_behind f gs i d within other so_far =
    let rest = put_field f (drop (i + 1) gs) in
    so_far
    ∙ ap (λ hs. take i gs ++ hs)
    (ap (put_field f) (drop_more gs i d within) ∙ ap (λ b. if b then f ∷ drop (i + 1) gs else get_or gs i d ∷ rest) other)
    ∙ sym (append_assoc (take i gs) (get_or gs i d ∷ []) rest) ∙ sym (ap (λ hs. hs ++ rest) (take_more gs i d within))

-- where there is none, it comes last
pub put_end : (f : FieldSaid) (gs : List FieldSaid) (i : ℕ)
    → length gs ≤ i → put_field f gs ≡ take i gs ++ put_field f (drop i gs) → put_field f gs ≡ gs ++ f ∷ []
put_end f gs i past so_far = so_far ∙ ap (λ hs. hs ++ put_field f (drop i gs)) (take_all i gs past) ∙ ap (λ hs. gs ++ put_field f hs) (drop_all i gs past)

pub any_fused : {A B : Type 0} (p : B → Bool) (g : A → B) (xs : List A) → list_any p (map g xs) ≡ list_any (λ x. p (g x)) xs
any_fused p g [] = refl
any_fused p g (x ∷ xs) = ap (λ b. p (g x) || b) (any_fused p g xs)

pub any_here : {A : Type 0} (p : A → Bool) (xs : List A) (i : ℕ) (d : A)
    → i < length xs → p (get_or xs i d) ≡ true → list_any p (drop i xs) ≡ true
any_here p xs i d within here = ap (list_any p) (drop_more xs i d within) ∙ ap (λ b. b || list_any p (drop (i + 1) xs)) here

pub any_behind : {A : Type 0} (p : A → Bool) (xs : List A) (i : ℕ) (d : A)
    → i < length xs → p (get_or xs i d) ≡ false → list_any p (drop (i + 1) xs) ≡ list_any p (drop i xs)
any_behind p xs i d within other = sym (ap (list_any p) (drop_more xs i d within) ∙ ap (λ b. b || list_any p (drop (i + 1) xs)) other)

pub texts_fused : {A B : Type 0} (f : B → List ℕ) (g : A → B) (xs : List A) → flat_map f (map g xs) ≡ flat_map (λ x. f (g x)) xs
texts_fused f g [] = refl
texts_fused f g (x ∷ xs) = ap (λ t. f (g x) ++ t) (texts_fused f g xs)

-- one more element is put behind others, as it is seen
pub one_more_seen : {A B V : Type 0} (view : V → B) (f : A → B) (xs : List A) (i : ℕ) (d : A) (base : List B) (old new : List V) (v : V)
    → i < length xs
    → view v ≡ f (get_or xs i d) → new ≡ old ++ v ∷ [] → map view old ≡ base ++ map f (take i xs) → map view new ≡ base ++ map f (take (i + 1) xs)
one_more_seen view f xs i d base old new v within same grew so_far =
    let x = get_or xs i d in
    ap (map view) grew ∙ map-append view old (v ∷ []) ∙ ap (λ b. map view old ++ b ∷ []) same ∙ ap (λ bs. bs ++ f x ∷ []) so_far
    ∙ append_assoc base (map f (take i xs)) (f x ∷ [])
    ∙ ap (λ bs. base ++ bs) (sym (map-append f (take i xs) (x ∷ [])) ∙ sym (ap (map f) (take_more xs i d within)))

-- one more text is written behind others
pub one_more_text : {A : Type 0} (sep : List ℕ) (f : A → List ℕ) (xs : List A) (i : ℕ) (d : A) (base old mid new : List ℕ)
    → i < length xs → mid ≡ old ++ sep → new ≡ mid ++ f (get_or xs i d) → old ≡ base ++ flat_map (λ x. sep ++ f x) (take i xs)
    → new ≡ base ++ flat_map (λ x. sep ++ f x) (take (i + 1) xs)
one_more_text {A} sep f xs i d base old mid new within first second so_far =
    let x = get_or xs i d in
    let g : A → List ℕ = λ x. sep ++ f x in
    let before = flat_map g (take i xs) in
    second ∙ ap (λ t. t ++ f x) first ∙ append_assoc old sep (f x) ∙ ap (λ t. t ++ (sep ++ f x)) so_far ∙ append_assoc base before (sep ++ f x)
    ∙ ap (λ t. base ++ t)
    (ap (λ t. before ++ t) (sym (append-nil (sep ++ f x))) ∙ sym (flat_map-append g (take i xs) (x ∷ [])) ∙ sym (ap (flat_map g) (take_more xs i d within)))
