-- The distinct spans of a stack: what its calls make of them.
use Rattle.std.proofs.Common.{◌≡◌, ℕ, suc, ◌+◌, ◌<◌, ◌≤◌, arith, List, [], ◌∷◌, ◌++◌, length, reverse, map, take, drop, get_or, refl, sym, ap, subst, ◌∙◌, Bool}
use Rattle.std.proofs.Common.{true, false, cond, append_assoc, ◌||◌, nat_eq, ⊎_elim, add-one}
use Rattle.std.proofs.lemmas.Bool.{cases_Bool, eq-eqb, eqb-true}
use Rattle.std.proofs.lemmas.List.{length-map, length-reverse, map-append, reverse-append, take-append-drop}
use Rattle.std.proofs.lemmas.List.Sorted.{IsPermutation-reverse, list_any-IsPermutation}
use Rattle.std.proofs.lemmas.Grind.{reverse_onto}
use Rattle.std.proofs.Math.Seq.{drop-cons}
use Rattle.std.specs.List.{list_any}
use Rattle.std.specs.Prelude.{Some, if◌then◌else◌}
use Rattle.span_core.specs.Span.{number_of}
use Rattle.span_core.specs.declared.span.Id.{Id}
use Rattle.span_store.specs.LaneStack.{stands, last_entered, leave, leaves_for_good, newest, without_duplicates}
use Rattle.span_store.specs.private.Index.{times}
use Rattle.span_store.specs.private.Marks.{numbers_down}
use Rattle.span_store.proofs.Marks.{flip, leave_apart, leave_split}
use Rattle.span_store.proofs.Times.{once_above, once_more}

-- without the newest entry of x, the same are distinct, or x is gone where that leaves it for good
abbrev IsLeft : ℕ → List ℕ → Type 0
IsLeft x xs = without_duplicates (leave x xs) ≡ cond (leaves_for_good x xs) (leave x (without_duplicates xs)) (without_duplicates xs)

-- another span stands where it stood
stands_other : (x y : ℕ) (xs : List ℕ) → nat_eq y x ≡ false → stands y (leave x xs) ≡ stands y xs
stands_other x y [] n = refl
stands_other x y (z ∷ zs) n =
    ⊎_elim
    (λ (e : nat_eq x z ≡ true). rw e (sym (ap (λ (b : Bool). b || stands y zs) (ap (nat_eq y) (sym (eqb-true x z e)) ∙ n))))
    (λ (e : nat_eq x z ≡ false). rw e (ap (λ (b : Bool). nat_eq y z || b) (stands_other x y zs n)))
    (cases_Bool (nat_eq x z))

left_here : (x : ℕ) (xs : List ℕ) → IsLeft x (x ∷ xs)
left_here x xs =
    ⊎_elim
    (λ (h : stands x xs ≡ true). rw (eq-eqb x x refl) (rw h refl))
    (λ (h : stands x xs ≡ false). rw (eq-eqb x x refl) (rw h (rw (eq-eqb x x refl) refl)))
    (cases_Bool (stands x xs))

cons_cond : (b : Bool) (y : ℕ) (us vs : List ℕ) → y ∷ cond b us vs ≡ cond b (y ∷ us) (y ∷ vs)
cons_cond true y us vs = refl
cons_cond false y us vs = refl

left_there : (x y : ℕ) (xs : List ℕ) → nat_eq x y ≡ false → IsLeft x xs → IsLeft x (y ∷ xs)
left_there x y xs n h = rw n (rw (stands_other x y xs (flip x y n)) (
    ⊎_elim
    (λ (s : stands y xs ≡ true). rw s (rw n h))
    (λ (s : stands y xs
    ≡ false). rw s (rw n (ap (λ (us : List ℕ). y ∷ us) h ∙ cons_cond (leaves_for_good x xs) y (leave x (without_duplicates xs)) (without_duplicates xs))))
    (cases_Bool (stands y xs))))

is_left : (x : ℕ) (xs : List ℕ) → IsLeft x xs
is_left x [] = refl
is_left x (y ∷ ys) =
    ⊎_elim
    (λ (e : nat_eq x y ≡ true). subst (λ (z : ℕ). IsLeft x (z ∷ ys)) (eqb-true x y e) (left_here x ys))
    (λ (e : nat_eq x y ≡ false). left_there x y ys e (is_left x ys))
    (cases_Bool (nat_eq x y))

-- left for good, it alone is gone
pub left_for_good : (x : ℕ) (xs : List ℕ) → leaves_for_good x xs ≡ true → without_duplicates (leave x xs) ≡ leave x (without_duplicates xs)
left_for_good x xs h = is_left x xs ∙ ap (λ (b : Bool). cond b (leave x (without_duplicates xs)) (without_duplicates xs)) h

-- else they are the same
pub left_again : (x : ℕ) (xs : List ℕ) → leaves_for_good x xs ≡ false → without_duplicates (leave x xs) ≡ without_duplicates xs
left_again x xs h = is_left x xs ∙ ap (λ (b : Bool). cond b (leave x (without_duplicates xs)) (without_duplicates xs)) h

-- in a list of spans a span stands where one of them has its number
stands_any : (x : ℕ) (xs : List Id) → stands x (map number_of xs) ≡ list_any (λ y. nat_eq x (number_of y)) xs
stands_any x [] = refl
stands_any x (y ∷ ys) = ap (λ (b : Bool). nat_eq x (number_of y) || b) (stands_any x ys)

-- the last one first, the same stand
stands_down : (x : ℕ) (xs : List Id) → stands x (numbers_down xs) ≡ stands x (map number_of xs)
stands_down x xs =
    stands_any x (reverse xs) ∙ sym (list_any-IsPermutation (λ y. nat_eq x (number_of y)) xs (reverse xs) (IsPermutation-reverse xs)) ∙ sym (stands_any x xs)

any_flipped : (x : ℕ) (xs : List Id) → list_any (λ y. nat_eq (number_of y) x) xs ≡ list_any (λ y. nat_eq x (number_of y)) xs
any_flipped x [] = refl
any_flipped x (y ∷ ys) =
    ⊎_elim
    (λ (e : nat_eq x (number_of y) ≡ true). rw e (rw (eq-eqb (number_of y) x (sym (eqb-true x (number_of y) e))) refl))
    (λ (e : nat_eq x (number_of y) ≡ false). rw e (rw (flip x (number_of y) e) (any_flipped x ys)))
    (cases_Bool (nat_eq x (number_of y)))

-- the same asked of each
pub any_down : (x : ℕ) (xs : List Id) → list_any (λ y. nat_eq (number_of y) x) xs ≡ stands x (numbers_down xs)
any_down x xs = any_flipped x xs ∙ sym (stands_any x xs) ∙ sym (stands_down x xs)

-- without duplicates the same spans stand
pub stands_distinct : (x : ℕ) (xs : List ℕ) → stands x (without_duplicates xs) ≡ stands x xs
stands_distinct x [] = refl
stands_distinct x (y ∷ ys) =
    ⊎_elim
    (λ (s : stands y ys ≡ true). rw s (stands_distinct x ys ∙
    ⊎_elim
    (λ (e : nat_eq x y ≡ true). ap (λ (z : ℕ). stands z ys) (eqb-true x y e) ∙ s ∙ sym (rw e refl))
    (λ (e : nat_eq x y ≡ false). sym (rw e refl))
    (cases_Bool (nat_eq x y))))
    (λ (s : stands y ys ≡ false). rw s (ap (λ (b : Bool). nat_eq x y || b) (stands_distinct x ys)))
    (cases_Bool (stands y ys))

split_down : (t d : List Id) (r : Id) → numbers_down (t ++ (r ∷ d)) ≡ numbers_down d ++ (number_of r ∷ numbers_down t)
split_down t d r =
    ap (map number_of) (reverse-append t (r ∷ d) ∙ ap (λ (us : List Id). us ++ reverse t) (reverse_onto d r []) ∙ append_assoc (reverse d) (r ∷ []) (reverse t))
    ∙ map-append number_of (reverse d) (r ∷ reverse t)

taken_of : (x : ℕ) (t d : List Id) (r : Id)
    → number_of r ≡ x → stands x (map number_of d) ≡ false → numbers_down (t ++ d) ≡ leave x (numbers_down (t ++ (r ∷ d)))
taken_of x t d r is apart =
    ap (map number_of) (reverse-append t d) ∙ map-append number_of (reverse d) (reverse t)
    ∙ sym (leave_split x (number_of r) (numbers_down d) (numbers_down t) is (stands_down x d ∙ apart))
    ∙ sym (ap (leave x) (split_down t d r))

split_at : (xs : List Id) (i : ℕ) (d : Id) → i < length xs → xs ≡ take i xs ++ (get_or xs i d ∷ drop (i + 1) xs)
split_at xs i d h =
    sym (take-append-drop i xs) ∙ ap (λ (us : List Id). take i xs ++ us) (drop-cons xs i d h ∙ ap (λ (n : ℕ). get_or xs i d ∷ drop n xs) (sym (add-one i)))

-- without the last entry of x
pub taken : (x i : ℕ) (xs : List Id) (d : Id) → i < length xs → number_of (get_or xs i d) ≡ x
    → stands x (map number_of (drop (i + 1) xs)) ≡ false → numbers_down (take i xs ++ drop (i + 1) xs) ≡ leave x (numbers_down xs)
taken x i xs d h is apart =
    taken_of x (take i xs) (drop (i + 1) xs) (get_or xs i d) is apart ∙ sym (ap (λ (us : List Id). leave x (numbers_down us)) (split_at xs i d h))

-- x isn't among them
pub none_taken : (x : ℕ) (xs : List Id) → stands x (map number_of xs) ≡ false → numbers_down xs ≡ leave x (numbers_down xs)
none_taken x xs h = sym (leave_apart x (numbers_down xs) (stands_down x xs ∙ h))

-- there are no more distinct spans than entries
few : (xs : List ℕ) → length (without_duplicates xs) ≤ length xs
few [] = omega arith
few (x ∷ xs) = by_test (stands x xs) refl (few xs)
  where
    by_test : (b : Bool) → stands x xs ≡ b → length (without_duplicates xs) ≤ length xs → length (without_duplicates (x ∷ xs)) ≤ suc (length xs)
    by_test true t rest = rw t (omega arith)
    by_test false t rest = rw t (omega arith)

pub few_distinct : (xs : List ℕ) (ids : List Id) → numbers_down ids ≡ without_duplicates xs → length ids ≤ length xs
few_distinct xs ids e =
    let a = length-map (reverse ids) number_of in
    let b = length-reverse ids in
    let c = ap length e in
    let d = few xs in
    omega arith

-- the newest of the distinct spans is the newest entry that is no duplicate
pub newest_is : (xs : List ℕ) → newest (without_duplicates xs) ≡ last_entered xs
newest_is [] = refl
newest_is (x ∷ xs) = by_test (stands x xs) (newest_is xs)
  where
    by_test : (b : Bool) → newest (without_duplicates xs) ≡ last_entered xs
        → newest (if b then without_duplicates xs else (x ∷ without_duplicates xs)) ≡ (if b then last_entered xs else Some x)
    by_test true rest = rest
    by_test false rest = refl

-- of the distinct spans each stands there once
pub once : (x : ℕ) (xs : List ℕ) → times x (without_duplicates xs) ≤ 1
once x [] = omega arith
once x (y ∷ ys) =
    let us = without_duplicates ys in
    ⊎_elim
    (λ (s : stands y ys ≡ true). subst (λ (vs : List ℕ). times x vs ≤ 1) (sym (ap (λ (b : Bool). cond b us (y ∷ us)) s)) (once x ys))
    (λ (s : stands y ys ≡ false).
    subst (λ (vs : List ℕ). times x vs ≤ 1) (sym (ap (λ (b : Bool). cond b us (y ∷ us)) s)) (once_more x y us (stands_distinct y ys ∙ s) (once x ys)))
    (cases_Bool (stands y ys))

-- where one of the distinct spans is x, none after it is
pub last_once : (xs : List Id) (x i : ℕ) (d : Id)
    → i < length xs → number_of (get_or xs i d) ≡ x → times x (numbers_down xs) ≤ 1 → stands x (map number_of (drop (i + 1) xs)) ≡ false
last_once xs x i d h is one =
    let t = take i xs in
    let r = get_or xs i d in
    let above = drop (i + 1) xs in
    let whole : numbers_down xs ≡ numbers_down above ++ ((number_of r) ∷ numbers_down t) = ap numbers_down (split_at xs i d h) ∙ split_down t above r in
    sym (stands_down x above)
    ∙ once_above x (number_of r) (numbers_down above) (numbers_down t) is (subst (λ (us : List ℕ). times x us ≤ 1) whole one)
