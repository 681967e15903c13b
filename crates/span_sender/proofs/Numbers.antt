-- Numbers that digits write.
use Rattle.std.proofs.Common.{◌≡◌, ℕ, ◌+◌, ◌*◌, ◌^◌, ◌<◌, ◌≤◌, ◌&&◌, nat_lt, Bool, true, false, if◌then◌else◌, List, [], ◌∷◌, length, refl, sym, ap, zero, suc}
use Rattle.std.proofs.Common.{◌==◌, drop, drop-cons, slice_index, arith, ◌∙◌, None, Some}
use Rattle.std.proofs.Math.ListN.{drop_of_length-le}
use Rattle.std.proofs.lemmas.Bool.{lt-ltb}
use Rattle.std.specs.Char.{digit_value, is_ascii_digit}
use Rattle.std.specs.List.{list_all}
use Rattle.std.specs.Str.Parse.{digits_value, digits_value_after}
use Rattle.span_sender.specs.Reply.{number_in}
use Rattle.span_sender.specs.private.Number.{followed_by}

below : (n d x : ℕ) → n * 10 + d ≤ x → n ≤ x
below n d x h = omega (arith, h)

-- more digits make no number smaller
grows : (n : ℕ) (ds : List ℕ) → n ≤ digits_value_after 10 n ds
grows n [] = omega arith
grows n (c ∷ cs) = below n (digit_value c) _ (grows (n * 10 + digit_value c) cs)

none_by_digits : (a b c : Bool) (v : ℕ) → b ≡ false → (if a && (b && c) then Some v else None) ≡ None
none_by_digits true b c v h = rw h refl
none_by_digits false b c v h = refl

none_by_size : (a b c : Bool) (v : ℕ) → c ≡ false → (if a && (b && c) then Some v else None) ≡ None
none_by_size true true c v h = rw h refl
none_by_size true false c v h = refl
none_by_size false b c v h = refl

some_by : (a b c : Bool) (v : ℕ) → a ≡ true → b ≡ true → c ≡ true → (if a && (b && c) then Some v else None) ≡ Some v
some_by a b c v f g h = rw (f, g, h) refl

too_large : (x y : ℕ) → nat_lt x (2 ^ 64) ≡ false → x ≤ y → nat_lt y (2 ^ 64) ≡ false
too_large x y h k = grind (arith, h, k)

up_to_same : (a b c : ℕ) → b ≡ c → a ≤ b → a ≤ c
up_to_same a b c e h = omega (arith, e, h)

-- where a digit more gives none, no number begins with these digits
none_of_both : (n d : ℕ) (rest digits : List ℕ) (a b : Bool) → is_ascii_digit d ≡ a → nat_lt (n * 10 + digit_value d) (2 ^ 64) ≡ b
    → (if a && b then Some (n * 10 + digit_value d) else None) ≡ None
    → digits_value_after 10 n (d ∷ rest) ≡ digits_value 10 digits → list_all is_ascii_digit (d ∷ rest) ≡ list_all is_ascii_digit digits
    → number_in digits ≡ None
none_of_both n d rest digits false b e f h v w =
    none_by_digits _ _ _ _ (sym w ∙ ap (λ (x : Bool). x && list_all is_ascii_digit rest) e)
none_of_both n d rest digits true false e f h v w =
    none_by_size _ _ _ _ (too_large _ _ f (up_to_same _ _ _ v (grows (n * 10 + digit_value d) rest)))
none_of_both n d rest digits true true e f h v w = cc

pub none_with : (n d : ℕ) (rest digits : List ℕ) → followed_by n d ≡ None
    → digits_value_after 10 n (d ∷ rest) ≡ digits_value 10 digits → list_all is_ascii_digit (d ∷ rest) ≡ list_all is_ascii_digit digits
    → number_in digits ≡ None
none_with n d rest digits h v w = none_of_both n d rest digits _ _ refl refl h v w

pub none_at : (n i : ℕ) (digits : List ℕ) → i < length digits → followed_by n (slice_index digits i) ≡ None
    → digits_value_after 10 n (drop i digits) ≡ digits_value 10 digits
    → list_all is_ascii_digit (drop i digits) ≡ list_all is_ascii_digit digits → number_in digits ≡ None
none_at n i digits b h v w =
    let e : drop i digits ≡ slice_index digits i ∷ drop (suc i) digits = drop-cons digits i 0 b in
    none_with n (slice_index digits i) (drop (suc i) digits) digits h (rw e at v) (rw e at w)

-- all were digits
pub whole : (n i : ℕ) (digits : List ℕ) → length digits ≤ i → 0 < length digits → n < 2 ^ 64
    → digits_value_after 10 n (drop i digits) ≡ digits_value 10 digits
    → list_all is_ascii_digit (drop i digits) ≡ list_all is_ascii_digit digits → Some n ≡ number_in digits
whole n i digits b z f v w =
    let e : drop i digits ≡ [] = drop_of_length-le digits b in
    let x : n ≡ digits_value 10 digits = rw e at v in
    let y : true ≡ list_all is_ascii_digit digits = rw e at w in
    let g : digits_value 10 digits < 2 ^ 64 = omega (arith, x, f) in
    ap (λ (m : ℕ). Some m) x ∙ sym (some_by _ _ _ _ (lt-ltb 0 (length digits) z) (sym y) (lt-ltb _ (2 ^ 64) g))

pub nonempty : (b : Bool) (n : ℕ) → b ≡ (n == 0) → b ≡ false → 0 < n
nonempty b zero e f = let no : true ≡ false = sym e ∙ f in absurd (cc)
nonempty b (suc n) e f = omega arith
