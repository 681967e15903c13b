-- A number in JSON is printable ASCII.
use Rattle.std.proofs.Common.{◌≡◌, ℕ, suc, ◌+◌, Bool, true, false, cond, ◌==◌, ◌&&◌, ◌||◌, List, [], ◌∷◌, ◌++◌, drop, Option, Some, None, option_and_then}
use Rattle.std.proofs.Common.{inl, inr, refl, sym, ap, ◌∙◌, subst, arith, append_assoc}
use Rattle.std.proofs.lemmas.Bool.{eqb-true, or_cases}
use Rattle.std.proofs.lemmas.Bool.Decides.{nat_tests}
use Rattle.std.proofs.lemmas.List.{append-nil}
use Rattle.std.proofs.lemmas.List.Folds.{list_all-append}
use Rattle.std.specs.Char.{is_ascii_digit}
use Rattle.std.specs.List.{list_all, prefix_len}
use Rattle.std.specs.Prelude.{⊤}
use Rattle.json.specs.Print.{IsNumber}
use Rattle.json.specs.Word.{after_digits, after_exponent, after_fraction, after_minus, after_number, after_sign, after_whole, head}
use Rattle.span_stream.proofs.Characters.{is_printable}

-- where a part of a number leaves a rest, printable ASCII stands before it
abbrev Ate : List ℕ → Option (List ℕ) → Type 0
Ate t None = ⊤
Ate t (Some r) = (w : List ℕ) × (list_all is_printable w ≡ true) × (t ≡ w ++ r)

joined : (t u : List ℕ) (o : Option (List ℕ)) → Ate t (Some u) → Ate u o → Ate t o
joined t u None a b = tt
joined t u (Some r) a b = (
  a.0 ++ b.0,
  list_all-append is_printable a.0 b.0 ∙ (λ i. a.1 i && b.1 i),
  a.2 ∙ ap (λ v. a.0 ++ v) b.2 ∙ sym (append_assoc a.0 b.0 r),
)

and_then : (t : List ℕ) (f : List ℕ → Option (List ℕ)) (o : Option (List ℕ)) → ((u : List ℕ) → Ate u (f u)) → Ate t o → Ate t (option_and_then f o)
and_then t f None each a = tt
and_then t f (Some u) each a = joined t u (f u) a (each u)

nothing : (t : List ℕ) → Ate t (Some t)
nothing t = ([], refl, refl)

digit_printable : (x : ℕ) → is_ascii_digit x ≡ true → is_printable x ≡ true
digit_printable x e = grind (arith, nat_tests)

digits_more : (b : Bool) (x n : ℕ) (xs : List ℕ) → (b ≡ true → is_printable x ≡ true) → Ate xs (Some (drop n xs))
    → Ate (x ∷ xs) (Some (drop (cond b (1 + n) 0) (x ∷ xs)))
digits_more false x n xs digit more = nothing (x ∷ xs)
digits_more true x n xs digit more =
    let next : suc n ≡ 1 + n = omega arith in
    subst (λ k. Ate (x ∷ xs) (Some (drop k (x ∷ xs)))) next
    (x ∷ more.0, (λ i. digit refl i && more.1 i), ap (λ l. x ∷ l) more.2)

digits_run : (t : List ℕ) → Ate t (Some (drop (prefix_len is_ascii_digit t) t))
digits_run [] = nothing []
digits_run (x ∷ xs) = digits_more (is_ascii_digit x) x (prefix_len is_ascii_digit xs) xs (digit_printable x) (digits_run xs)

if_any : (b : Bool) (t r : List ℕ) → Ate t (Some r) → Ate t (cond b None (Some r))
if_any true t r a = tt
if_any false t r a = a

digits : (t : List ℕ) → Ate t (after_digits t)
digits t = if_any (prefix_len is_ascii_digit t == 0) t (drop (prefix_len is_ascii_digit t) t) (digits_run t)

-- one byte
first : (t : List ℕ) → is_printable (head t) ≡ true → Ate t (Some (drop 1 t))
first [] e = nothing []
first (x ∷ xs) e = (x ∷ [], ap (λ b. b && true) e, refl)

is : (x c : ℕ) → is_printable c ≡ true → (x == c) ≡ true → is_printable x ≡ true
is x c p e = ap is_printable (eqb-true x c e) ∙ p

is_either : (x a b : ℕ) → is_printable a ≡ true → is_printable b ≡ true → ((x == a) || (x == b)) ≡ true → is_printable x ≡ true
is_either x a b p q e = elim (or_cases (x == a) (x == b) e) [ inl f ↦ is x a p f | inr f ↦ is x b q f ]

maybe : (b : Bool) (t : List ℕ) → (b ≡ true → is_printable (head t) ≡ true) → Ate t (Some (cond b (drop 1 t) t))
maybe true t e = first t (e refl)
maybe false t e = nothing t

minus : (t : List ℕ) → Ate t (Some (after_minus t))
minus t = maybe (head t == 45) t (is (head t) 45 refl)

sign : (t : List ℕ) → Ate t (Some (after_sign t))
sign t = maybe ((head t == 45) || (head t == 43)) t (is_either (head t) 45 43 refl refl)

whole_by : (b : Bool) (t : List ℕ) → (b ≡ true → is_printable (head t) ≡ true) → Ate t (cond b (Some (drop 1 t)) (after_digits t))
whole_by true t e = first t (e refl)
whole_by false t e = digits t

whole : (t : List ℕ) → Ate t (after_whole t)
whole t = whole_by (head t == 48) t (is (head t) 48 refl)

fraction_by : (b : Bool) (t : List ℕ) → (b ≡ true → is_printable (head t) ≡ true) → Ate t (cond b (after_digits (drop 1 t)) (Some t))
fraction_by true t e = joined t (drop 1 t) (after_digits (drop 1 t)) (first t (e refl)) (digits (drop 1 t))
fraction_by false t e = nothing t

fraction : (t : List ℕ) → Ate t (after_fraction t)
fraction t = fraction_by (head t == 46) t (is (head t) 46 refl)

exponent_by : (b : Bool) (t : List ℕ) → (b ≡ true → is_printable (head t) ≡ true) → Ate t (cond b (after_digits (after_sign (drop 1 t))) (Some t))
exponent_by true t e =
    let u = drop 1 t in
    joined t u (after_digits (after_sign u)) (first t (e refl)) (joined u (after_sign u) (after_digits (after_sign u)) (sign u) (digits (after_sign u)))
exponent_by false t e = nothing t

exponent : (t : List ℕ) → Ate t (after_exponent t)
exponent t = exponent_by ((head t == 101) || (head t == 69)) t (is_either (head t) 101 69 refl refl)

number_ate : (t : List ℕ) → Ate t (after_number t)
unfolding after_number
number_ate t =
    and_then t after_exponent (option_and_then after_fraction (after_whole (after_minus t))) exponent
    (and_then t
    after_fraction (after_whole (after_minus t)) fraction (joined t (after_minus t) (after_whole (after_minus t)) (minus t) (whole (after_minus t))))

pub number_printable : (s : List ℕ) → IsNumber s → list_all is_printable s ≡ true
number_printable s h =
    let all = subst (Ate s) h (number_ate s) in
    subst (λ v. list_all is_printable v ≡ true) (sym (all.2 ∙ append-nil all.0)) all.1
