-- The newest entry of a lane into a span.
use Rattle.std.proofs.Common.{◌≡◌, ◌≢◌, ◌∙◌, ◌<◌, ℕ, zero, suc, Bool, true, false, List, [], ◌∷◌, ◌++◌, ap, arith, drop, get_or, if◌then◌else◌, length}
use Rattle.std.proofs.Common.{map, not, refl, sym}
use Rattle.std.specs.Prelude.{◌==◌, ◌&&◌, ◌||◌}
use Rattle.std.specs.List.{list_any, remove}
use Rattle.std.proofs.lemmas.List.Folds.{list_any_at}
use Rattle.span_core.specs.Span.{number_of}
use Rattle.span_core.specs.declared.span.Id.{Id}
use Rattle.span_export.specs.Entry.{is_of, is_on, left, since_newest, with_span}
use Rattle.span_export.specs.declared.entry.Entry.{Entry}

-- the rest of what is left, and since when, by two tests
abbrev left_by : ℕ → ℕ → Entry → List Entry → Bool → Bool → List Entry
left_by lane x e es later here = if later then e ∷ left lane x es else if here then es else e ∷ es

abbrev since_by : ℕ → ℕ → Entry → List Entry → Bool → Bool → List Entry
since_by lane x e es later here = if later then since_newest lane x es else if here then e ∷ es else []

-- an entry that is one, and none behind it is
pub left_here : (lane x i : ℕ) (es : List Entry) (d : Entry)
    → i < length es → is_of lane x (get_or es i d) ≡ true → list_any (is_of lane x) (drop (suc i) es) ≡ false → remove es i ≡ left lane x es
left_here lane x i [] d within here none = absurd (omega arith)
left_here lane x zero (e ∷ es) d within here none = sym (ap (λ b. left_by lane x e es b (is_of lane x e)) none ∙ ap (left_by lane x e es false) here)
left_here lane x (suc i) (e ∷ es) d within here none =
    ap (λ xs. e ∷ xs) (left_here lane x i es d (omega arith) here none)
    ∙ sym (ap (λ b. left_by lane x e es b (is_of lane x e)) (list_any_at (is_of lane x) es i d (omega arith) here))

pub since_here : (lane x i : ℕ) (es : List Entry) (d : Entry)
    → i < length es → is_of lane x (get_or es i d) ≡ true → list_any (is_of lane x) (drop (suc i) es) ≡ false → drop i es ≡ since_newest lane x es
since_here lane x i [] d within here none = absurd (omega arith)
since_here lane x zero (e ∷ es) d within here none = sym (ap (λ b. since_by lane x e es b (is_of lane x e)) none ∙ ap (since_by lane x e es false) here)
since_here lane x (suc i) (e ∷ es) d within here none =
    since_here lane x i es d (omega arith) here none
    ∙ sym (ap (λ b. since_by lane x e es b (is_of lane x e)) (list_any_at (is_of lane x) es i d (omega arith) here))

first_not : (a b : Bool) → a || b ≡ false → a ≡ false
first_not true b e = e
first_not false b e = refl

later_not : (a b : Bool) → a || b ≡ false → b ≡ false
later_not true b e = cc
later_not false b e = e

-- where none is one, all stay
pub none_left : (lane x : ℕ) (es : List Entry) → list_any (is_of lane x) es ≡ false → es ≡ left lane x es
none_left lane x [] none = refl
none_left lane x (e ∷ es) none =
    let here = first_not (is_of lane x e) (list_any (is_of lane x) es) none in
    let later = later_not (is_of lane x e) (list_any (is_of lane x) es) none in
    sym (ap (λ b. left_by lane x e es b (is_of lane x e)) later ∙ ap (left_by lane x e es false) here)

pub none_since : (lane x : ℕ) (es : List Entry) → list_any (is_of lane x) es ≡ false → [] ≡ since_newest lane x es
none_since lane x [] none = refl
none_since lane x (e ∷ es) none =
    let here = first_not (is_of lane x e) (list_any (is_of lane x) es) none in
    let later = later_not (is_of lane x e) (list_any (is_of lane x) es) none in
    sym (ap (λ b. since_by lane x e es b (is_of lane x e)) later ∙ ap (since_by lane x e es false) here)

-- an id is among others as its number is among theirs
pub numbered : (x : ℕ) (ids : List Id) → list_any (λ i. number_of i == x) ids ≡ list_any (λ n. n == x) (map number_of ids)
numbered x [] = refl
numbered x (i ∷ ids) = ap (λ b. (number_of i == x) || b) (numbered x ids)

-- the span of one more entry is there or not
pub one_more_span : (lane : ℕ) (xs new : List ℕ) (e : Entry) (on there : Bool)
    → is_on lane e ≡ on → list_any (λ x. x == number_of e.span) xs ≡ there → new ≡ (if on && not there then xs ++ number_of e.span ∷ [] else xs)
    → new ≡ with_span lane xs e
one_more_span lane xs new e on there p q h =
    h ∙ sym (ap (λ b. if b && not (list_any (λ x. x == number_of e.span) xs) then xs ++ number_of e.span ∷ [] else xs) p
    ∙ ap (λ b. if on && not b then xs ++ number_of e.span ∷ [] else xs) q)

-- spans that there are, and none
pub some_there : (ids : List Id) → 0 < length ids → map number_of ids ≢ []
some_there [] some = absurd (omega arith)
some_there (i ∷ ids) some = λ e. cc

pub none_there : (ids : List Id) → length ids ≡ 0 → map number_of ids ≡ []
none_there [] none = refl
none_there (i ∷ ids) none = absurd (omega arith)
