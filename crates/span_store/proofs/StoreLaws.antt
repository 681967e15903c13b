-- The laws of the store.
use Rattle.std.proofs.Common.{◌≡◌, ℕ, ◌⊎◌, List, [], ◌∷◌, ◌++◌, Option, Some, None, Bool, true, false, cond, zero, suc, refl, sym, ap, subst, ◌∙◌, inl, inr}
use Rattle.std.proofs.Common.{arith}
use Rattle.std.proofs.lemmas.Bool.{eq-eqb, true≢false}
use Rattle.std.specs.Option.{option_and_then}
use Rattle.std.specs.Ordering.{nat_cmp, eq_by_cmp}
use Rattle.std.specs.FinMap.{entries, find, get, get-entries}
use Rattle.std.specs.Map.{keys_of}
use Rattle.span_store.specs.Closes.{Member}
use Rattle.span_store.specs.LaneStack.{leave}
use Rattle.span_store.specs.Step.{entered, exited}
use Rattle.span_store.specs.Store.{HasChild, IsChain, IsClosing, IsForest, IsInStore, IsOpen, Span, Spans, Stacks, Store, is_parent, parent_of, stack_on}
use Rattle.span_store.specs.Store.{with_stack_on}
use Rattle.span_store.proofs.Chains.{same_test, test_same}
use Rattle.span_store.proofs.Kept.{parent_true}
use Rattle.span_store.proofs.LaneStacks.{stack_with}

-- ---- the stack of a lane

pub left_again : (x : ℕ) (xs : List ℕ) → leave x (x ∷ xs) ≡ xs
left_again x xs = ap (λ (b : Bool). cond b xs (x ∷ leave x xs)) (eq-eqb x x refl)

twice : (b : Bool) (xs ys zs : List ℕ) → cond b xs (cond b ys zs) ≡ cond b xs zs
twice true xs ys zs = refl
twice false xs ys zs = refl

own : (m : Stacks) (lane q : ℕ) → cond (eq_by_cmp nat_cmp q lane) (stack_on m lane) (stack_on m q) ≡ stack_on m q
own m lane q = by_case (eq_by_cmp nat_cmp q lane) refl
  where
    by_case : (b : Bool) → eq_by_cmp nat_cmp q lane ≡ b → cond (eq_by_cmp nat_cmp q lane) (stack_on m lane) (stack_on m q) ≡ stack_on m q
    by_case true e = ap (λ (b : Bool). cond b (stack_on m lane) (stack_on m q)) e ∙ ap (stack_on m) (sym (test_same q lane e))
    by_case false e = ap (λ (b : Bool). cond b (stack_on m lane) (stack_on m q)) e

-- the stack that a lane gets when a span is entered
pub stack_entered : (m : Stacks) (lane x : ℕ) → stack_on (with_stack_on m lane (x ∷ stack_on m lane)) lane ≡ x ∷ stack_on m lane
stack_entered m lane x =
    stack_with m lane (x ∷ stack_on m lane) lane
    ∙ ap (λ (b : Bool). cond b (x ∷ stack_on m lane) (stack_on m lane)) (same_test lane lane refl)

-- entered and at once exited, each lane has the stack that it had
pub stacks_restored : (s : Store) (lane x q : ℕ) → stack_on (exited (entered s lane x) lane x).stacks q ≡ stack_on s.stacks q
stacks_restored s lane x q =
    let m : Stacks = with_stack_on s.stacks lane (x ∷ stack_on s.stacks lane) in
    let back : leave x (stack_on m lane) ≡ stack_on s.stacks lane = ap (leave x) (stack_entered s.stacks lane x) ∙ left_again x (stack_on s.stacks lane) in
    stack_with m lane (leave x (stack_on m lane)) q
    ∙ ap (λ (xs : List ℕ). cond (eq_by_cmp nat_cmp q lane) xs (stack_on m q)) back
    ∙ ap (cond (eq_by_cmp nat_cmp q lane) (stack_on s.stacks lane)) (stack_with s.stacks lane (x ∷ stack_on s.stacks lane) q)
    ∙ twice (eq_by_cmp nat_cmp q lane) (stack_on s.stacks lane) (x ∷ stack_on s.stacks lane) (stack_on s.stacks q)
    ∙ own s.stacks lane q

-- ---- open or closing

parent_false : (x : ℕ) (o : Option ℕ) → is_parent x o ≡ false → o ≡ Some x → ⊥
parent_false x o h e = true≢false (sym (ap (is_parent x) e ∙ eq-eqb x x refl) ∙ h)

some_one : (r s : Span) → Some r ≡ Some s → r ≡ s
some_one r s e = cc

-- none of these is a child
abbrev NoneAmong : Spans → ℕ → List ℕ → Type 0
NoneAmong m x ks = (c : ℕ) (r : Span) → Member c ks → get m c ≡ Some r → r.parent ≡ Some x → ⊥

one_more : (m : Spans) (x k : ℕ) (ks : List ℕ)
    → ((r : Span) → get m k ≡ Some r → r.parent ≡ Some x → ⊥) → HasChild m x ⊎ NoneAmong m x ks → HasChild m x ⊎ NoneAmong m x (k ∷ ks)
one_more m x k ks apart rest = elim rest [
  | inl h ↦ inl h
  | inr none ↦ inr (λ c r h e p. elim h [
    | inl same ↦ apart r (ap (get m) (sym same) ∙ e) p
    | inr t ↦ none c r t e p
  ])
]

at_test : (m : Spans) (x k : ℕ) (ks : List ℕ) (r : Span)
    → get m k ≡ Some r → (b : Bool) → is_parent x r.parent ≡ b → HasChild m x ⊎ NoneAmong m x ks → HasChild m x ⊎ NoneAmong m x (k ∷ ks)
at_test m x k ks r e true t rest = inl (k, r, e, parent_true x r.parent t)
at_test m x k ks r e false t rest =
    one_more m x k ks (λ s g. parent_false x s.parent (ap (λ (w : Span). is_parent x w.parent) (some_one s r (sym g ∙ e)) ∙ t)) rest

at_span : (m : Spans) (x k : ℕ) (ks : List ℕ) (o : Option Span) → get m k ≡ o → HasChild m x ⊎ NoneAmong m x ks → HasChild m x ⊎ NoneAmong m x (k ∷ ks)
at_span m x k ks None e rest = one_more m x k ks (λ r g p. let no : None ≡ Some r = sym e ∙ g in let not : ⊥ = cc in not) rest
at_span m x k ks (Some r) e rest = at_test m x k ks r e (is_parent x r.parent) refl rest

-- a child is among these, or none of these is one
among : (m : Spans) (x : ℕ) (ks : List ℕ) → HasChild m x ⊎ NoneAmong m x ks
among m x [] = inr (λ c r h. absurd h)
among m x (k ∷ ks) = at_span m x k ks (get m k) refl (among m x ks)

key_at : (c : ℕ) (r : Span) (e : ℕ × Span) (es : List (ℕ × Span)) (b : Bool)
    → eq_by_cmp nat_cmp c e.0 ≡ b → find nat_cmp c (e ∷ es) ≡ Some r → (find nat_cmp c es ≡ Some r → Member c (keys_of es)) → Member c (keys_of (e ∷ es))
key_at c r e es true t h rest = inl (test_same c e.0 t)
key_at c r e es false t h rest = inr (rest (sym (ap (λ (b : Bool). cond b (Some e.1) (find nat_cmp c es)) t) ∙ h))

-- what is found has its key among the keys
key_among : (c : ℕ) (r : Span) (es : List (ℕ × Span)) → find nat_cmp c es ≡ Some r → Member c (keys_of es)
key_among c r [] h = let not : ⊥ = cc in absurd not
key_among c r (e ∷ es) h = key_at c r e es (eq_by_cmp nat_cmp c e.0) refl h (λ k. key_among c r es k)

-- x has a child, or it has none
pub child_or_none : (m : Spans) (x : ℕ) → HasChild m x ⊎ (HasChild m x → ⊥)
child_or_none m x = elim (among m x (keys_of (entries m))) [
  | inl h ↦ inl h
  | inr none ↦ inr (λ h. none h.0 h.1 (key_among h.0 h.1 (entries m) (sym (get-entries m h.0) ∙ h.2)) h.2 h.3)
]

by_handles : (m : Spans) (x : ℕ) (r : Span) → get m x ≡ Some r → (n : ℕ) → r.handles ≡ n → IsOpen m x ⊎ IsClosing m x
by_handles m x r e zero h = elim (child_or_none m x) [
  | inl child ↦ inl (r, e, inr child)
  | inr none ↦ inr (r, e, h, none)
]
by_handles m x r e (suc n) h = inl (r, e, inl (omega arith))

-- what is in the store is open or closing
pub open_or_closing : (m : Spans) (x : ℕ) → IsInStore m x → IsOpen m x ⊎ IsClosing m x
open_or_closing m x there = by_handles m x there.0 there.1 there.0.handles refl

-- what is open or closing is in the store
pub in_store : (m : Spans) (x : ℕ) → IsOpen m x ⊎ IsClosing m x → IsInStore m x
in_store m x h = elim h [ inl o ↦ (o.0, o.1) | inr k ↦ (k.0, k.1) ]

-- what is open isn't closing
pub not_both : (m : Spans) (x : ℕ) → IsOpen m x → IsClosing m x → ⊥
not_both m x o k =
    let same : o.0 ≡ k.0 = some_one o.0 k.0 (sym o.1 ∙ k.1) in
    let none : (o.0).handles ≡ 0 = ap (λ (r : Span). r.handles) same ∙ k.2 in
    elim o.2 [ inl some ↦ omega arith | inr child ↦ k.3 child ]

-- ---- chains of parents

first_of : (m : Spans) (x : ℕ) (xs : List ℕ) → IsChain m (Some x) xs → IsInStore m x
first_of m x [] c = absurd c
first_of m x (y ∷ ys) c = (c.1, c.2)

second_of : (m : Spans) (x p : ℕ) (r : Span) (xs : List ℕ) → get m x ≡ Some r → r.parent ≡ Some p → IsChain m (Some x) xs → IsInStore m p
second_of m x p r [] e h c = absurd c
second_of m x p r (y ∷ ys) e h c =
    let same : c.1 ≡ r = some_one c.1 r (sym c.2 ∙ e) in
    first_of m p ys (subst (λ (o : Option ℕ). IsChain m o ys) (ap (λ (w : Span). w.parent) same ∙ h) c.3)

parent_by : (m : Spans) (x p : ℕ) (o : Option Span) → IsForest m → get m x ≡ o → option_and_then (λ r. r.parent) o ≡ Some p → IsInStore m p
parent_by m x p None f e h = let not : ⊥ = cc in absurd not
parent_by m x p (Some r) f e h = let c = f x r e in second_of m x p r c.0 e h c.1

-- a parent is in the store
pub parent_there : (m : Spans) (x p : ℕ) → IsForest m → parent_of m x ≡ Some p → IsInStore m p
parent_there m x p f h = parent_by m x p (get m x) f refl h

-- a parent of a span in the store is open: it has that child
pub parent_open : (m : Spans) (x p : ℕ) → IsForest m → parent_of m x ≡ Some p → IsOpen m p
parent_open m x p f h =
    let there = parent_there m x p f h in
    (there.0, there.1, inr (child_by (get m x) refl h))
  where
    child_by : (o : Option Span) → get m x ≡ o → option_and_then (λ r. r.parent) o ≡ Some p → HasChild m p
    child_by None e q = let no : ⊥ = cc in absurd no
    child_by (Some r) e q = (x, r, e, q)

nothing_left : (m : Spans) (o : Option ℕ) → IsChain m o [] → o ≡ None
nothing_left m None c = refl
nothing_left m (Some p) c = absurd c

begins_with : (m : Spans) (o : Option ℕ) (z : ℕ) (zs : List ℕ) → IsChain m o (z ∷ zs) → o ≡ Some z
begins_with m None z zs c = absurd c
begins_with m (Some p) z zs c = ap Some c.0

-- a chain ends at a span without a parent
pub root_above : (m : Spans) (x : ℕ) (xs : List ℕ)
    → IsChain m (Some x) xs → (below : List ℕ) × (root : ℕ) × IsChain m (Some x) (below ++ root ∷ []) × IsInStore m root × (parent_of m root ≡ None)
root_above m x [] c = absurd c
root_above m x (y ∷ []) c =
    let here : get m y ≡ Some c.1 = subst (λ (q : ℕ). get m q ≡ Some c.1) c.0 c.2 in
    ([], y, c, (c.1, here), ap (option_and_then (λ (r : Span). r.parent)) here ∙ nothing_left m c.1.parent c.3)
root_above m x (y ∷ (z ∷ zs)) c =
    let up : c.1.parent ≡ Some z = begins_with m c.1.parent z zs c.3 in
    let u = root_above m z (z ∷ zs) (subst (λ (o : Option ℕ). IsChain m o (z ∷ zs)) up c.3) in
    (y ∷ u.0, u.1, (c.0, c.1, c.2, subst (λ (o : Option ℕ). IsChain m o (u.0 ++ u.1 ∷ [])) (sym up) u.2), u.3, u.4)
