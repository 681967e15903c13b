-- Closing spans one after another: what is closed so far, and what is closing now.
use Rattle.std.proofs.Common.{◌≡◌, ℕ, ◌+◌, ◌-◌, ◌<◌, ◌⊎◌, List, [], ◌∷◌, ◌++◌, Option, Some, None, refl, sym, ap, subst, ◌∙◌, inl, inr, arith, Bool, cond}
use Rattle.std.proofs.Common.{IfSome, append_assoc, is_some, zero, suc}
use Rattle.std.proofs.lemmas.List.{append-nil, length-append}
use Rattle.std.proofs.lemmas.Bool.{cases_eq}
use Rattle.std.specs.Option.{option_and_then, option_map}
use Rattle.std.specs.Cmp.{nat_cmp_total}
use Rattle.std.specs.FinMap.{FinMap, get, insert, remove, empty, len, len-remove, empty_of_len, get-empty}
use Rattle.std.specs.Ordering.{nat_cmp}
use Rattle.span_core.specs.Span.{number_of}
use Rattle.span_core.specs.declared.span.Id.{Id}
use Rattle.span_store.specs.Closes.{Member, AreUnheld, HasNoClosing, HasNoClosingBut, remove_all, without}
use Rattle.span_store.specs.Step.{Drops, Removes, TakesOut}
use Rattle.span_store.specs.Store.{Span, Spans, RegistryState, Store, IsForest, HasChild, IsClosing, IsHeld, IsOpen, add_handle, parent_of, take_handle}
use Rattle.span_store.specs.Store.{with_handles, with_spans}
use Rattle.span_store.proofs.Chains.{get_put, get_beside}
use Rattle.span_store.proofs.Closing.{none_unheld, unheld_itself, unheld_step, settled_removed, forest_removed}
use Rattle.span_store.proofs.Kept.{forest_put}

-- ---- each span has a handle or a child

pub settled_none : (m : Spans) → m ≡ empty → HasNoClosing m
settled_none m e y t g = let no : None ≡ Some t = sym (get-empty nat_cmp y) ∙ sym (ap (λ (w : Spans). get w y) e) ∙ g in let not : ⊥ = cc in absurd not

child_beside : (m : Spans) (x y : ℕ) (s : Span) → get m x ≡ None → HasChild m y → HasChild (insert m x s) y
child_beside m x y s none c =
    (c.0, c.1, get_beside m x s c.0 (λ same. let no : None ≡ Some c.1 = sym none ∙ ap (get m) (sym same) ∙ c.2 in let not : ⊥ = cc in not) ∙ c.2, c.3)

pub settled_added : (m : Spans) (x : ℕ) (s : Span) → get m x ≡ None → 0 < s.handles → HasNoClosing m → HasNoClosing (insert m x s)
settled_added m x s none l h y t g = elim (cases_eq y x) [
  | inl same ↦
      let both : Some t ≡ Some s = sym g ∙ ap (get (insert m x s)) same ∙ get_put m x s in
      let ts : t ≡ s = cc in
      inl (subst (λ (w : Span). 0 < w.handles) (sym ts) l)
  | inr ne ↦ elim (h y t (sym (get_beside m x s y ne) ∙ g)) [ inl a ↦ inl a | inr c ↦ inr (child_beside m x y s none c) ]
]

child_put : (m : Spans) (x y : ℕ) (r s : Span) → get m x ≡ Some r → s.parent ≡ r.parent → HasChild m y → HasChild (insert m x s) y
child_put m x y r s g p c = elim (cases_eq c.0 x) [
  | inl same ↦
      let both : Some c.1 ≡ Some r = sym c.2 ∙ ap (get m) same ∙ g in
      let cr : c.1 ≡ r = cc in
      (x, s, get_put m x s, p ∙ sym (ap (λ (w : Span). w.parent) cr) ∙ c.3)
  | inr ne ↦ (c.0, c.1, get_beside m x s c.0 ne ∙ c.2, c.3)
]

settled_put : (m : Spans) (x : ℕ) (r s : Span) → get m x ≡ Some r → s.parent ≡ r.parent → HasNoClosing m → HasNoClosingBut (insert m x s) (Some x)
settled_put m x r s g p h y t e = elim (cases_eq y x) [
  | inl same ↦ inr (ap Some (sym same))
  | inr ne ↦ inl (elim (h y t (sym (get_beside m x s y ne) ∙ e)) [ inl l ↦ inl l | inr c ↦ inr (child_put m x y r s g p c) ])
]

pub settled_open : (m : Spans) (x : ℕ) → HasNoClosingBut m (Some x) → IsOpen m x → HasNoClosing m
settled_open m x s o y t g = elim (s y t g) [
  | inl a ↦ a
  | inr e ↦
      let same : x ≡ y = cc in
      let both : Some o.0 ≡ Some t = sym o.1 ∙ ap (get m) same ∙ g in
      let ot : o.0 ≡ t = cc in
      subst (λ (z : ℕ). (0 < t.handles) ⊎ HasChild m z) same (subst (λ (w : Span). (0 < w.handles) ⊎ HasChild m x) ot o.2)
]

pub settled_but_none : (m : Spans) → HasNoClosing m → HasNoClosingBut m None
settled_but_none m s y t g = inl (s y t g)

pub settled_now : (m : Spans) → HasNoClosingBut m None → HasNoClosing m
settled_now m s y t g = elim (s y t g) [ inl a ↦ a | inr e ↦ let no : ⊥ = cc in absurd no ]

-- ---- a handle is taken

abbrev less : Span → Span
less r = record r { handles = r.handles - 1 }

taken_is : (m : Spans) (x : ℕ) (r : Span) → get m x ≡ Some r → take_handle m x ≡ insert m x (less r)
taken_is m x r e = ap (with_handles (λ n. n - 1) m x) e

pub forest_taken : (m : Spans) (x : ℕ) → IsForest m → IsHeld m x → IsForest (take_handle m x)
forest_taken m x f h = subst IsForest (sym (taken_is m x h.0 h.1)) (forest_put m x h.0 (less h.0) h.1 refl f)

pub settled_taken : (m : Spans) (x : ℕ) → HasNoClosing m → IsHeld m x → HasNoClosingBut (take_handle m x) (Some x)
settled_taken m x s h = subst (λ (w : Spans). HasNoClosingBut w (Some x)) (sym (taken_is m x h.0 h.1)) (settled_put m x h.0 (less h.0) h.1 refl s)

-- ---- a handle is added

abbrev greater : Span → Span
greater r = record r { handles = r.handles + 1 }

added_is : (m : Spans) (x : ℕ) (r : Span) → get m x ≡ Some r → add_handle m x ≡ insert m x (greater r)
added_is m x r e = ap (with_handles (λ n. n + 1) m x) e

pub settled_raised : (m : Spans) (x : ℕ) → HasNoClosing m → IsOpen m x → HasNoClosing (add_handle m x)
settled_raised m x s o =
    let there = get_put m x (greater o.0) in
    subst HasNoClosing (sym (added_is m x o.0 o.1))
    (settled_open (insert m x (greater o.0)) x (settled_put m x o.0 (greater o.0) o.1 refl s) (greater o.0, there, inl (omega arith)))

-- a span that is still open closes nothing
pub none_dropped : (old : RegistryState) (x : ℕ)
    → IsForest old.store.spans → HasNoClosing old.store.spans → IsHeld old.store.spans x → IsOpen (take_handle old.store.spans x) x
    → Drops old x [] (with_spans old (take_handle old.store.spans x))
none_dropped old x f s h o = record {
  closes = none_unheld (take_handle old.store.spans x) (forest_taken old.store.spans x f h)
      (settled_but_none (take_handle old.store.spans x) (settled_open (take_handle old.store.spans x) x (settled_taken old.store.spans x s h) o));
  taken = record { store = refl; limits = refl; filters = refl; reserved = refl; retired = omega arith; no_other = omega arith; late = λ h. h };
}

-- ---- the closes of a drop, one after another

removed_more : {X : Type 0} (m : FinMap nat_cmp X) (xs : List ℕ) (x : ℕ) → remove_all m (xs ++ (x ∷ [])) ≡ remove (remove_all m xs) x
removed_more m [] x = refl
removed_more m (y ∷ ys) x = removed_more (remove m y) ys x

parent_found : (m : Spans) (x : ℕ) (r : Span) (o : Option ℕ) → get m x ≡ Some r → parent_of m x ≡ o → r.parent ≡ o
parent_found m x r o g p = ap (option_and_then (λ s. s.parent)) (sym g) ∙ p

settled_last : (m n : Spans) (x : ℕ) → n ≡ remove m x → IsClosing m x → HasNoClosingBut m (Some x)
    → ((p : ℕ) → parent_of m x ≡ Some p → IsOpen n p) → HasNoClosingBut n None
settled_last m n x e k s l y t g =
    elim (settled_removed m x k.0 k.1 s y t (ap (λ (w : Spans). get w y) (sym e) ∙ g)) [
      | inl a ↦ inl (subst (λ (w : Spans). (0 < t.handles) ⊎ HasChild w y) (sym e) a)
      | inr p ↦
          let o = l y (ap (option_and_then (λ s. s.parent)) k.1 ∙ p) in
          let same : Some o.0 ≡ Some t = sym o.1 ∙ g in
          let ot : o.0 ≡ t = cc in
          inl (subst (λ (w : Span). (0 < w.handles) ⊎ HasChild n y) ot o.2)
    ]

settled_next : (m n : Spans) (x : ℕ) (o : Option ℕ) → n ≡ remove m x → IsClosing m x → HasNoClosingBut m (Some x)
    → IfSome o (λ p. (parent_of m x ≡ Some p) × IsClosing n p) → (o ≡ None → (p : ℕ) → parent_of m x ≡ Some p → IsOpen n p) → HasNoClosingBut n o
settled_next m n x (Some p) e k s h l =
    subst (λ (w : Option ℕ). HasNoClosingBut n w)
    (parent_found m x k.0 (Some p) k.1 h.0) (subst (λ (w : Spans). HasNoClosingBut w (k.0).parent) (sym e) (settled_removed m x k.0 k.1 s))
settled_next m n x None e k s h l = settled_last m n x e k s (l refl)

-- where closing stands: these are taken out, the rest of what is unheld follows, and this one is closing now
pub record Progress (first now : RegistryState) (next : Option ℕ) (xs : List ℕ) : Type 0 where
  pub taken : TakesOut first xs now
  pub rest : (ys : List ℕ) → AreUnheld now.store.spans ys → AreUnheld first.store.spans (xs ++ ys)
  pub forest : IsForest now.store.spans
  pub settled : HasNoClosingBut now.store.spans next
  pub closing : IfSome next (IsClosing now.store.spans)

pub progress_first : (first : RegistryState) (x : ℕ)
    → IsForest first.store.spans → HasNoClosingBut first.store.spans (Some x) → IsClosing first.store.spans x → Progress first first (Some x) []
progress_first first x f s k = record {
  taken = record { store = refl; limits = refl; filters = refl; reserved = refl; retired = omega arith; no_other = omega arith; late = λ h. h };
  rest = λ ys h. h;
  forest = f;
  settled = s;
  closing = k;
}

-- what `remove` answers, by numbers
next_closing : (s t : RegistryState) (x : ℕ) (o : Option Id)
    → IfSome o (λ p. (parent_of s.store.spans x ≡ Some (number_of p)) × IsClosing t.store.spans (number_of p))
    → IfSome (option_map number_of o) (λ p. (parent_of s.store.spans x ≡ Some p) × IsClosing t.store.spans p)
next_closing s t x None h = h
next_closing s t x (Some p) h = h

next_none : (s t : RegistryState) (x : ℕ) (o : Option Id) → (o ≡ None → (p : ℕ) → parent_of s.store.spans x ≡ Some p → IsOpen t.store.spans p)
    → option_map number_of o ≡ None → (p : ℕ) → parent_of s.store.spans x ≡ Some p → IsOpen t.store.spans p
next_none s t x None h e = h refl
next_none s t x (Some p) h e = let no : ⊥ = cc in absurd no

all_closing : (s t : RegistryState) (x : ℕ) (o : Option ℕ)
    → IfSome o (λ p. (parent_of s.store.spans x ≡ Some p) × IsClosing t.store.spans p) → IfSome o (IsClosing t.store.spans)
all_closing s t x None h = tt
all_closing s t x (Some p) h = h.1

-- one span more is taken out
pub taken_more : (first now new : RegistryState) (id : Id) (xs : List ℕ) (o : Option Id)
    → TakesOut first xs now → Removes id o now new → TakesOut first (xs ++ (number_of id ∷ [])) new
taken_more first now new id xs o h r =
    let x = number_of id in
    record {
      store = r.taken.store ∙ ap (λ (s : Store). without s (x ∷ [])) h.store
          ∙ (λ i.
          record first.store { spans = (sym (removed_more first.store.spans xs x)) i; extensions = (sym (removed_more first.store.extensions xs x)) i });
      limits = r.taken.limits ∙ h.limits;
      filters = r.taken.filters ∙ h.filters;
      reserved = r.taken.reserved ∙ h.reserved;
      retired = (let a = r.taken.retired in let b = h.retired in omega arith);
      no_other = (let a = r.taken.no_other in let b = h.no_other in let n = length-append xs (x ∷ []) in omega arith);
      late = λ _. r.late;
    }

pub progress_more : (first now new : RegistryState) (id : Id) (xs : List ℕ) (o : Option Id)
    → Progress first now (Some (number_of id)) xs → Removes id o now new → Progress first new (option_map number_of o) (xs ++ (number_of id ∷ []))
progress_more first now new id xs o h r =
    let x = number_of id in
    let spans : new.store.spans ≡ remove now.store.spans x = ap (λ (s : Store). s.spans) r.taken.store in
    let next = next_closing now new x o r.closing in
    record {
      taken = taken_more first now new id xs o h.taken r;
      rest = λ ys u. subst (AreUnheld first.store.spans) (sym (append_assoc xs (x ∷ []) ys))
          (h.rest (x ∷ ys) (unheld_step now.store.spans x h.forest h.settled h.closing ys (subst (λ (m : Spans). AreUnheld m ys) spans u)));
      forest = subst IsForest (sym spans) (forest_removed now.store.spans x h.forest (h.closing).3);
      settled = settled_next now.store.spans new.store.spans x (option_map number_of o) spans h.closing h.settled next (next_none now new x o r.still_open);
      closing = all_closing now new x (option_map number_of o) next;
    }

pub progress_last : (first now : RegistryState) (xs : List ℕ) → Progress first now None xs → AreUnheld first.store.spans xs
progress_last first now xs h = subst (AreUnheld first.store.spans) (append-nil xs) (h.rest [] (none_unheld now.store.spans h.forest h.settled))

-- the span that began is one of those that close
pub begins : (first : RegistryState) (x : ℕ) (xs : List ℕ) → IsClosing first.store.spans x → AreUnheld first.store.spans xs → Member x xs
begins first x xs k u = (u.exact x).1 (unheld_itself first.store.spans x k)

some_len : (m : Spans) (x : ℕ) (r : Span) → get m x ≡ Some r → 0 < len m
some_len m x r g = by_case (len m) refl
  where
    by_case : (n : ℕ) → len m ≡ n → 0 < len m
    by_case zero e =
        let none : get m x ≡ None = ap (λ (w : Spans). get w x) (empty_of_len m e) ∙ get-empty nat_cmp x in
        let no : None ≡ Some r = sym none ∙ g in
        let not : ⊥ = cc in absurd not
    by_case (suc n) e = omega arith

-- each turn takes a span out
pub fewer_spans : (now new : RegistryState) (x : ℕ) → IsClosing now.store.spans x → TakesOut now (x ∷ []) new → len new.store.spans < len now.store.spans
fewer_spans now new x k r =
    let m = now.store.spans in
    let l : len new.store.spans ≡ len m - 1 =
    ap (λ (s : Store). len s.spans) r.store ∙ len-remove nat_cmp_total m x ∙ ap (λ (b : Bool). cond b (len m - 1) (len m)) (ap is_some k.1) in
    let some : 0 < len m = some_len m x k.0 k.1 in
    omega arith
