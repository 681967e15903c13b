use Rattle.std.proofs.Common.{◌≡◌, ℕ, List, [], ◌∷◌, length, Some, refl, sym, ap, subst, inl, inr, arith}
use Rattle.std.specs.List.{AllByRecursion}
use Rattle.span_store.specs.Closes.{Member, IsDeepestFirst, AreUnheld}
use Rattle.span_store.specs.Store.{Spans}
use Rattle.span_store.proofs.Chains.{chain_one}
use Rattle.span_store.proofs.Closing.{IsBelow, IsDeeper, deeper_below}

not_both : (m : Spans) (x y : ℕ) → IsDeeper m x y → IsDeeper m y x → ⊥
not_both m x y p q =
    let a = ap length (chain_one m (Some x) p.0 q.1 p.2 q.3) in
    let b = ap length (chain_one m (Some y) p.1 q.0 p.3 q.2) in
    let s = p.4 in
    let t = q.4 in
    absurd (omega arith)

at_member : (P : ℕ → Type 0) (xs : List ℕ) (x : ℕ) → AllByRecursion P xs → Member x xs → P x
at_member P [] x h k = absurd k
at_member P (y ∷ ys) x h k = elim k [ inl e ↦ subst P (sym e) h.0 | inr t ↦ at_member P ys x h.1 t ]

rest_of : (m : Spans) (x : ℕ) (xs ys : List ℕ)
    → IsDeepestFirst m (x ∷ xs) → ((z : ℕ) → Member z (x ∷ xs) → Member z (x ∷ ys)) → (z : ℕ) → Member z xs → Member z ys
rest_of m x xs ys o f z h = elim (f z (inr h)) [
  | inl e ↦ absurd ((at_member (IsBelow m x) xs z o.0 h).1 (sym e))
  | inr t ↦ t
]

heads : (m : Spans) (x y : ℕ) (xs ys : List ℕ) → IsDeepestFirst m (x ∷ xs) → IsDeepestFirst m (y ∷ ys) → Member x (y ∷ ys) → Member y (x ∷ xs) → x ≡ y
heads m x y xs ys o p h k = elim h [
  | inl e ↦ e
  | inr t ↦ elim k [
    | inl e ↦ sym e
    | inr u ↦ absurd (not_both m x y (deeper_below m x y (at_member (IsBelow m x) xs y o.0 u)) (deeper_below m y x (at_member (IsBelow m y) ys x p.0 t)))
  ]
]

same_list : (m : Spans) (xs ys : List ℕ)
    → IsDeepestFirst m xs → IsDeepestFirst m ys → ((z : ℕ) → Member z xs → Member z ys) → ((z : ℕ) → Member z ys → Member z xs) → xs ≡ ys
same_list m [] [] o p f g = refl
same_list m [] (y ∷ ys) o p f g = absurd (g y (inl refl))
same_list m (x ∷ xs) [] o p f g = absurd (f x (inl refl))
same_list m (x ∷ xs) (y ∷ ys) o p f g =
    let e : x ≡ y = heads m x y xs ys o p (f x (inl refl)) (g y (inl refl)) in
    let p2 : IsDeepestFirst m (x ∷ ys) = subst (λ (w : ℕ). IsDeepestFirst m (w ∷ ys)) (sym e) p in
    let f2 : (z : ℕ) → Member z (x ∷ xs) → Member z (x ∷ ys) = λ z h. subst (λ (w : ℕ). Member z (w ∷ ys)) (sym e) (f z h) in
    let g2 : (z : ℕ) → Member z (x ∷ ys) → Member z (x ∷ xs) = λ z h. g z (subst (λ (w : ℕ). Member z (w ∷ ys)) e h) in
    let rest : xs ≡ ys = same_list m xs ys o.1 p2.1 (rest_of m x xs ys o f2) (rest_of m x ys xs p2 g2) in
    cc

pub unheld_once : (m : Spans) (xs ys : List ℕ) → AreUnheld m xs → AreUnheld m ys → xs ≡ ys
unheld_once m xs ys a b = same_list m xs ys a.order b.order (λ z h. (b.exact z).1 ((a.exact z).0 h)) (λ z h. (a.exact z).1 ((b.exact z).0 h))
