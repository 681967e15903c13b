use Rattle.std.proofs.Common.{◌≡◌, ℕ, ◌+◌, ◌<◌, ◌⊎◌, List, [], ◌∷◌, ◌++◌, length, Option, Some, None, refl, sym, ap, subst, ◌∙◌, inl, inr, arith, length-append}
use Rattle.std.proofs.lemmas.Bool.{cases_eq}
use Rattle.std.specs.List.{AllByRecursion}
use Rattle.std.specs.FinMap.{get, remove}
use Rattle.span_store.specs.Closes.{Member, IsWithin, IsUnheld, IsDeepestFirst, AreUnheld, HasNoClosingBut}
use Rattle.span_store.specs.Store.{Span, Spans, IsChain, IsForest, HasChild, IsClosing}
use Rattle.span_store.proofs.Chains.{chain_at, one_below, get_removed, get_kept}

some_one : (a b : ℕ) → Some a ≡ Some b → a ≡ b
some_one a b e = cc

-- a chain goes over to a map that has the same parents along it
pub chain_into : (m n : Spans) (o : Option ℕ) (xs : List ℕ)
    → ((q : ℕ) (r : Span) → Member q xs → get m q ≡ Some r → (s : Span) × (get n q ≡ Some s) × (s.parent ≡ r.parent))
    → IsChain m o xs → IsChain n o xs
chain_into m n None [] f c = tt
chain_into m n None (y ∷ ys) f c = absurd c
chain_into m n (Some k) [] f c = absurd c
chain_into m n (Some k) (y ∷ ys) f c =
    let u = f k c.1 (inl c.0) c.2 in
    (c.0, u.0, u.1, subst (λ (o : Option ℕ). IsChain n o ys) (sym u.2) (chain_into m n c.1.parent ys (λ q r h e. f q r (inr h) e) c.3))

-- what is left was there
pub was_there : (m : Spans) (x q : ℕ) (r : Span) → get (remove m x) q ≡ Some r → (q ≡ x → ⊥) × (get m q ≡ Some r)
was_there m x q r e =
    elim (cases_eq q x) [
      | inl same ↦ let gone : None ≡ Some r = sym (get_removed m x) ∙ ap (get (remove m x)) (sym same) ∙ e in cc
      | inr ne ↦ (ne, sym (get_kept m x q ne) ∙ e)
    ]

-- a span without a child stands in no chain but its own
pub leaf_not_in : (m : Spans) (x : ℕ) → (HasChild m x → ⊥) → (o : Option ℕ) (xs : List ℕ) → IsChain m o xs → (o ≡ Some x → ⊥) → Member x xs → ⊥
leaf_not_in m x leaf o [] c ne h = h
leaf_not_in m x leaf None (y ∷ ys) c ne h = c
leaf_not_in m x leaf (Some k) (y ∷ ys) c ne h =
    elim h [
      | inl e ↦ ne (ap Some (c.0 ∙ sym e))
      | inr t ↦ leaf_not_in m x leaf c.1.parent ys c.3 (λ p. leaf (k, c.1, c.2, p)) t
    ]

pub chain_back : (m : Spans) (x : ℕ) (o : Option ℕ) (ys : List ℕ) → IsChain (remove m x) o ys → IsChain m o ys
chain_back m x o ys c = chain_into (remove m x) m o ys (λ q r h e. (r, (was_there m x q r e).1, refl)) c

pub chain_kept : (m : Spans) (x : ℕ) → (HasChild m x → ⊥) → (y : ℕ) (ys : List ℕ) → (y ≡ x → ⊥) → IsChain m (Some y) ys → IsChain (remove m x) (Some y) ys
chain_kept m x leaf y ys ne c =
    chain_into m (remove m x) (Some y) ys
    (λ q r h e. (r, get_kept m x q (λ same. leaf_not_in m x leaf (Some y) ys c (λ p. ne (some_one y x p)) (subst (λ (w : ℕ). Member w ys) same h)) ∙ e, refl)) c

pub forest_removed : (m : Spans) (x : ℕ) → IsForest m → (HasChild m x → ⊥) → IsForest (remove m x)
forest_removed m x f leaf y r e =
    let u = was_there m x y r e in
    let c = f y r u.1 in
    (c.0, chain_kept m x leaf y c.0 u.0 c.1)

within_back : (m : Spans) (x y z : ℕ) → IsWithin (remove m x) y z → IsWithin m y z
within_back m x y z w = (w.0, chain_back m x (Some y) w.0 w.1, w.2)

within_kept : (m : Spans) (x : ℕ) → (HasChild m x → ⊥) → (y z : ℕ) → (y ≡ x → ⊥) → IsWithin m y z → IsWithin (remove m x) y z
within_kept m x leaf y z ne w = (w.0, chain_kept m x leaf y w.0 ne w.1, w.2)

same_span : (m : Spans) (x y : ℕ) (r s : Span) → y ≡ x → get m x ≡ Some r → get m y ≡ Some s → s ≡ r
same_span m x y r s e p q = let same : Some s ≡ Some r = sym q ∙ ap (get m) e ∙ p in cc

no_handle : (m : Spans) (x : ℕ) → IsClosing m x → (y : ℕ) (s : Span) → y ≡ x → get m y ≡ Some s → s.handles ≡ 0
no_handle m x k y s e g = ap (λ (t : Span). t.handles) (same_span m x y k.0 s e k.1 g) ∙ k.2

pub unheld_itself : (m : Spans) (x : ℕ) → IsClosing m x → IsUnheld m x
unheld_itself m x k = (
  (k.0, k.1),
  λ y s w g.
      elim (cases_eq y x) [
        | inl e ↦ no_handle m x k y s e g
        | inr ne ↦ absurd (leaf_not_in m x k.3 (Some y) w.0 w.1 (λ p. ne (some_one y x p)) w.2)
      ],
)

unheld_back : (m : Spans) (x : ℕ) → IsClosing m x → (z : ℕ) → IsUnheld (remove m x) z → IsUnheld m z
unheld_back m x k z u = (
  (u.0.0, (was_there m x z u.0.0 u.0.1).1),
  λ y s w g.
      elim (cases_eq y x) [
        | inl e ↦ no_handle m x k y s e g
        | inr ne ↦ u.1 y s (within_kept m x k.3 y z ne w) (get_kept m x y ne ∙ g)
      ],
)

unheld_kept : (m : Spans) (x z : ℕ) → (z ≡ x → ⊥) → IsUnheld m z → IsUnheld (remove m x) z
unheld_kept m x z ne u = ((u.0.0, get_kept m x z ne ∙ u.0.1), λ y s w g. u.1 y s (within_back m x y z w) (was_there m x y s g).1)

-- x has more ancestors than y
abbrev pub IsDeeper : Spans → ℕ → ℕ → Type 0
IsDeeper m x y = (xs : List ℕ) × (ys : List ℕ) × IsChain m (Some x) xs × IsChain m (Some y) ys × (length ys < length xs)

-- x is a descendant of y
abbrev pub IsBelow : Spans → ℕ → ℕ → Type 0
IsBelow m x y = IsWithin m x y × (x ≡ y → ⊥)

-- a longer chain that goes through z, and does not begin there
shorter : (m : Spans) (x z : ℕ) (up : List ℕ) → (z ≡ x → ⊥) → IsChain m (Some x) up → Member z up → IsDeeper m x z
shorter m x z up ne c h = let u = chain_at m z (Some x) up c h in (up, z ∷ u.1, c, u.2, less u.0 u.1 up c u.3)
  where
    less : (before zs up : List ℕ) → IsChain m (Some x) up → up ≡ before ++ (z ∷ zs) → length (z ∷ zs) < length up
    less [] zs [] c e = absurd c
    less [] zs (y ∷ ys) c e = absurd (ne (sym (c.0 ∙ heads y z ys zs e)))
      where
        heads : (a b : ℕ) (cs bs : List ℕ) → a ∷ cs ≡ b ∷ bs → a ≡ b
        heads a b cs bs e = cc
    less (b ∷ bs) zs up c e = let n : length up ≡ length (b ∷ bs) + length (z ∷ zs) = ap length e ∙ length-append (b ∷ bs) (z ∷ zs) in omega arith

-- a descendant has more ancestors
pub deeper_below : (m : Spans) (x y : ℕ) → IsBelow m x y → IsDeeper m x y
deeper_below m x y b = shorter m x y (b.0).0 (λ e. b.1 (sym e)) (b.0).1 (b.0).2

-- where only x is closing, an unheld span other than x is an ancestor of x
unheld_above : (m : Spans) (x : ℕ) → IsForest m → HasNoClosingBut m (Some x) → (z : ℕ) → (z ≡ x → ⊥) → IsUnheld m z → IsBelow m x z
unheld_above m x f settled z ne u =
    let d = one_below m (λ y s. (0 < s.handles) ⊎ (x ≡ y)) f
    (λ y s g. elim (settled y s g) [ inl a ↦ elim a [ inl h ↦ inl (inl h) | inr k ↦ inr k ] | inr e ↦ inl (inr (some_one x y e)) ])
    z u.0.0 u.0.1 in
    elim d.3 [
      | inl h ↦ absurd (let none = u.1 d.0 d.1 d.4 d.2 in omega arith)
      | inr e ↦ (subst (λ (y : ℕ). IsWithin m y z) (sym e) d.4, λ same. ne (sym same))
    ]

all_back : (m : Spans) (x y : ℕ) (zs : List ℕ) → AllByRecursion (IsBelow (remove m x) y) zs → AllByRecursion (IsBelow m y) zs
all_back m x y [] h = tt
all_back m x y (z ∷ zs) h = ((within_back m x y z h.0.0, h.0.1), all_back m x y zs h.1)

order_back : (m : Spans) (x : ℕ) (ys : List ℕ) → IsDeepestFirst (remove m x) ys → IsDeepestFirst m ys
order_back m x [] h = tt
order_back m x (y ∷ ys) h = (all_back m x y ys h.0, order_back m x ys h.1)

all_members : (P : ℕ → Type 0) (ys : List ℕ) → ((y : ℕ) → Member y ys → P y) → AllByRecursion P ys
all_members P [] h = tt
all_members P (y ∷ ys) h = (h y (inl refl), all_members P ys (λ z t. h z (inr t)))

-- Where every span is held or has a child, none is unheld.
pub none_unheld : (m : Spans) → IsForest m → HasNoClosingBut m None → AreUnheld m []
none_unheld m f settled = record {
  exact = λ x. (
    λ h. absurd h,
    λ u.
        let d = one_below m (λ y s. 0 < s.handles) f
        (λ y s g. elim (settled y s g) [ inl a ↦ a | inr e ↦ let no : ⊥ = cc in absurd no ])
        x u.0.0 u.0.1 in
        absurd (let none = u.1 d.0 d.1 d.4 d.2 in let some = d.3 in omega arith),
  );
  order = tt;
}

-- Where only x is closing, it is the deepest that is unheld, and the others are those that are once it is removed.
pub unheld_step : (m : Spans) (x : ℕ)
    → IsForest m → HasNoClosingBut m (Some x) → IsClosing m x → (rest : List ℕ) → AreUnheld (remove m x) rest → AreUnheld m (x ∷ rest)
unheld_step m x f settled k rest u = record {
  exact = λ z. (
    λ h. elim h [
      | inl e ↦ subst (IsUnheld m) (sym e) (unheld_itself m x k)
      | inr t ↦ unheld_back m x k z ((u.exact z).0 t)
    ],
    λ h. elim (cases_eq z x) [ inl e ↦ inl e | inr ne ↦ inr ((u.exact z).1 (unheld_kept m x z ne h)) ],
  );
  order = (
    all_members (IsBelow m x) rest (λ z t.
        let w = (u.exact z).0 t in
        unheld_above m x f settled z (was_there m x z w.0.0 w.0.1).0 (unheld_back m x k z w)),
    order_back m x rest u.order,
  );
}

-- what is left is settled, but for the parent of what was removed
pub settled_removed : (m : Spans) (x : ℕ) (r : Span) → get m x ≡ Some r → HasNoClosingBut m (Some x) → HasNoClosingBut (remove m x) r.parent
settled_removed m x r g settled y s e =
    let was = was_there m x y s e in
    elim (settled y s was.1) [
      | inl a ↦ elim a [
        | inl h ↦ inl (inl h)
        | inr c ↦ elim (cases_eq c.0 x) [
          | inl same ↦ inr (ap (λ (t : Span). t.parent) (sym (same_span m x c.0 r c.1 same g c.2)) ∙ c.3)
          | inr ne ↦ inl (inr (c.0, c.1, get_kept m x c.0 ne ∙ c.2, c.3))
        ]
      ]
      | inr same ↦ absurd (was.0 (some_one y x same))
    ]
  where
    some_one : (a b : ℕ) → Some b ≡ Some a → a ≡ b
    some_one a b e = cc
