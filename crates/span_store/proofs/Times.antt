-- How often a span stands on a stack, and how that is counted.
use Rattle.std.proofs.Common.{◌≡◌, ℕ, ◌+◌, ◌-◌, ◌<◌, ◌≤◌, List, [], ◌∷◌, ◌++◌, refl, sym, ap, ◌∙◌, arith, Bool, true, false, true≢false, cond, nat_eq}
use Rattle.std.proofs.Common.{⊎_elim, Option}
use Rattle.std.proofs.lemmas.Bool.{cases_Bool, cases_lt, or_parts, or_from, eq-eqb, eqb-true, eqb-false, ne_eqb, lt-ltb, le-ltb}
use Rattle.std.proofs.lemmas.List.Sums.{sum_by-append, sum_by-cons}
use Rattle.std.specs.HashMap.{HashMap, Updates, get}
use Rattle.std.specs.Prelude.{nat_lt}
use Rattle.span_store.specs.declared.index.Posting.{Posting}
use Rattle.span_store.specs.LaneStack.{leave, stands}
use Rattle.span_store.specs.private.Index.{counted, times}

-- 1 where the two are one
abbrev same : ℕ → ℕ → ℕ
same x y = cond (nat_eq x y) 1 0

same_yes : (x y : ℕ) → nat_eq x y ≡ true → same x y ≡ 1
same_yes x y e = ap (λ (b : Bool). cond b 1 0) e

same_no : (x y : ℕ) → nat_eq x y ≡ false → same x y ≡ 0
same_no x y e = ap (λ (b : Bool). cond b 1 0) e

turned : (x y : ℕ) → nat_eq x y ≡ false → nat_eq y x ≡ false
turned x y h = ne_eqb y x (λ e. eqb-false x y h (sym e))

times_cons : (x y : ℕ) (ys : List ℕ) → times x (y ∷ ys) ≡ same x y + times x ys
times_cons x y ys = sum_by-cons (λ (z : ℕ). same x z) y ys

-- what doesn't stand there stands there no time
pub times_apart : (x : ℕ) (xs : List ℕ) → stands x xs ≡ false → times x xs ≡ 0
times_apart x [] h = refl
times_apart x (y ∷ ys) h =
    let p = or_parts (nat_eq x y) (stands x ys) h in
    let c = times_cons x y ys in
    let n = same_no x y p.0 in
    let t = times_apart x ys p.1 in
    omega arith

pub apart_times : (x : ℕ) (xs : List ℕ) → times x xs ≡ 0 → stands x xs ≡ false
apart_times x [] h = refl
apart_times x (y ∷ ys) h =
    let c = times_cons x y ys in
    ⊎_elim
    (λ (e : nat_eq x y ≡ true). let n = same_yes x y e in absurd (omega arith))
    (λ (e : nat_eq x y ≡ false). let n = same_no x y e in let t : times x ys ≡ 0 = omega arith in or_from (nat_eq x y) (stands x ys) e (apart_times x ys t))
    (cases_Bool (nat_eq x y))

stands_some : (x : ℕ) (xs : List ℕ) → stands x xs ≡ true → 0 < times x xs
stands_some x xs s =
    ⊎_elim
    (λ (p : 0 < times x xs). p)
    (λ (n : times x xs ≤ 0). let t : times x xs ≡ 0 = omega arith in absurd (true≢false (sym s ∙ apart_times x xs t)))
    (cases_lt 0 (times x xs))

-- a span stands there if it does so once at least
pub stands_is : (x : ℕ) (xs : List ℕ) → stands x xs ≡ nat_lt 0 (times x xs)
stands_is x xs =
    ⊎_elim
    (λ (s : stands x xs ≡ true). s ∙ sym (lt-ltb 0 (times x xs) (stands_some x xs s)))
    (λ (s : stands x xs ≡ false). let t = times_apart x xs s in let n : times x xs ≤ 0 = omega arith in s ∙ sym (le-ltb 0 (times x xs) n))
    (cases_Bool (stands x xs))

-- without its newest entry a span stands there once less, and any other as before
pub times_left : (q x : ℕ) (xs : List ℕ) → times q (leave x xs) ≡ times q xs - same q x
times_left q x [] = let n : 0 ≡ 0 - same q x = omega arith in n
times_left q x (y ∷ ys) =
    let c = times_cons q y ys in
    ⊎_elim
    (λ (e : nat_eq x y ≡ true).
    let one : same q x ≡ same q y = ap (same q) (eqb-true x y e) in
    let gone : times q (leave x (y ∷ ys)) ≡ times q ys = ap (λ (b : Bool). times q (cond b ys (y ∷ leave x ys))) e in
    omega arith)
    (λ (e : nat_eq x y ≡ false).
    let kept : times q (leave x (y ∷ ys)) ≡ times q (y ∷ leave x ys) = ap (λ (b : Bool). times q (cond b ys (y ∷ leave x ys))) e in
    let d = times_cons q y (leave x ys) in
    let rest = times_left q x ys in
    ⊎_elim
    (λ (s : nat_eq q x ≡ true). let n = same_no q y (ap (λ (z : ℕ). nat_eq z y) (eqb-true q x s) ∙ e) in omega arith)
    (λ (s : nat_eq q x ≡ false). let n = same_no q x s in omega arith)
    (cases_Bool (nat_eq q x)))
    (cases_Bool (nat_eq x y))

pub times_left_here : (x : ℕ) (xs : List ℕ) → times x (leave x xs) ≡ times x xs - 1
times_left_here x xs = let c = times_left x x xs in let n = same_yes x x (eq-eqb x x refl) in omega arith

-- what stands there once doesn't stand above that
pub once_above : (x y : ℕ) (above below : List ℕ) → y ≡ x → times x (above ++ (y ∷ below)) ≤ 1 → stands x above ≡ false
once_above x y above below is once =
    let a : times x (above ++ (y ∷ below)) ≡ times x above + times x (y ∷ below) = sum_by-append (λ (z : ℕ). same x z) above (y ∷ below) in
    let c = times_cons x y below in
    let n = same_yes x y (eq-eqb x y (sym is)) in
    let t : times x above ≡ 0 = omega arith in
    apart_times x above t

-- in front of others, none of which is that span, it stands there once
pub once_more : (x y : ℕ) (ys : List ℕ) → stands y ys ≡ false → times x ys ≤ 1 → times x (y ∷ ys) ≤ 1
once_more x y ys s h =
    let c = times_cons x y ys in
    ⊎_elim
    (λ (e : nat_eq x y ≡ true).
    let n = same_yes x y e in
    let t = times_apart x ys (ap (λ (z : ℕ). stands z ys) (eqb-true x y e) ∙ s) in
    omega arith)
    (λ (e : nat_eq x y ≡ false). let n = same_no x y e in omega arith)
    (cases_Bool (nat_eq x y))

-- ---- what is counted

module _ {S : Type 0} (m n : HashMap ℕ Posting S) (k x : ℕ) (is : k ≡ x) (o : Option Posting) (xs : List ℕ) where
  -- what is counted of a span that isn't written
  beside : Updates nat_eq m n k o → (q : ℕ) → nat_eq x q ≡ false → counted (get nat_eq n q) ≡ counted (get nat_eq m q)
  beside put q e = ap counted (put.0 q) ∙ ap (λ (b : Bool). counted (cond b o (get nat_eq m q))) (ap (λ (z : ℕ). nat_eq z q) is ∙ e)

  here : Updates nat_eq m n k o → (q : ℕ) → nat_eq x q ≡ true → counted (get nat_eq n q) ≡ counted o
  here put q e = ap counted (put.0 q) ∙ ap (λ (b : Bool). counted (cond b o (get nat_eq m q))) (ap (λ (z : ℕ). nat_eq z q) is ∙ e)

  -- x is put in front, and counted once more
  pub counts_added : ((q : ℕ) → counted (get nat_eq m q) ≡ times q xs) → Updates nat_eq m n k o → counted o ≡ times x xs + 1
      → (q : ℕ) → counted (get nat_eq n q) ≡ times q (x ∷ xs)
  counts_added h put more q =
      let c = times_cons q x xs in
      ⊎_elim
      (λ (e : nat_eq x q ≡ true).
      let one = same_yes q x (eq-eqb q x (sym (eqb-true x q e))) in
      let all : times x xs ≡ times q xs = ap (λ (z : ℕ). times z xs) (eqb-true x q e) in
      let new = here put q e in
      omega arith)
      (λ (e : nat_eq x q ≡ false). let none = same_no q x (turned x q e) in let new = beside put q e in let old = h q in omega arith)
      (cases_Bool (nat_eq x q))

  -- its newest entry is taken out, and what is left of it counted
  pub counts_left : ((q : ℕ) → counted (get nat_eq m q) ≡ times q xs) → Updates nat_eq m n k o → counted o ≡ times x (leave x xs)
      → (q : ℕ) → counted (get nat_eq n q) ≡ times q (leave x xs)
  counts_left h put less q =
      let c = times_left q x xs in
      ⊎_elim
      (λ (e : nat_eq x q ≡ true). here put q e ∙ less ∙ ap (λ (z : ℕ). times z (leave x xs)) (eqb-true x q e))
      (λ (e : nat_eq x q ≡ false). let none = same_no q x (turned x q e) in let new = beside put q e in let old = h q in omega arith)
      (cases_Bool (nat_eq x q))
