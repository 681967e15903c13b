use Rattle.std.proofs.Common.{◌≡◌, ℕ, ◌+◌, ◌<◌, ◌≤◌, ◌⊎◌, List, [], ◌∷◌, Option, Some, None, refl, sym, ap, subst, ◌∙◌, inl, inr, arith, Bool, true, false}
use Rattle.std.proofs.Common.{cond, zero, suc, IsSome, is_some}
use Rattle.std.proofs.lemmas.Bool.{cases_eq, eqb-true, eq-eqb, true≢false}
use Rattle.std.proofs.lemmas.List.Sums.{sum_by-cons}
use Rattle.std.proofs.lemmas.Map.{lookup-none}
use Rattle.std.proofs.lemmas.Map.Keys.{IsDistinct-tail, IsDistinct-from_sorted}
use Rattle.std.proofs.lemmas.Map.Entries.{none_past_head, sum_by-remove_entry}
use Rattle.std.specs.Option.{option_map, unwrap_or}
use Rattle.std.specs.List.{IsDistinct}
use Rattle.std.specs.List.Sorted.{IsStrictlySortedBy}
use Rattle.std.specs.Ordering.{nat_cmp, eq_by_cmp}
use Rattle.std.specs.Cmp.{nat_cmp_total, eq_by_cmp_equiv}
use Rattle.std.specs.BTreeMap.{is_at}
use Rattle.std.specs.Map.{keys_of, values_of}
use Rattle.std.specs.FinMap.{FinMap, empty, entries, get, insert, remove, find, get-from_entries, same_map, nat_cmp-IsAntisymmetric}
use Rattle.span_extensions.proofs.NumberMaps.{get_beside_inserted, get_beside_removed, get_inserted, get_removed as taken_out}
use Rattle.span_store.specs.declared.span_record.SpanRecord.{SpanRecord}
use Rattle.span_store.specs.Store.{Span, Spans, IsChain, IsForest, is_parent, IsInStore, HasChild, IsOpen, IsClosing}
use Rattle.span_store.specs.private.StoreRepr.{spans_in, spans_of, children_of, at, IsKept}
use Rattle.span_store.specs.Data.{span_of, parent_in}
use Rattle.span_store.proofs.Chains.{same_test, other_test, get_put, get_beside, get_removed, get_kept}
use Rattle.span_store.proofs.Closing.{chain_into}
use Rattle.span_store.proofs.Entries.{at_is, none, ordered, total_added, total_removed, total_set}

-- the records by number
abbrev pub Records : Type 0
Records = FinMap nat_cmp SpanRecord

found_in : (q : ℕ) (es : List (ℕ × SpanRecord)) → find nat_cmp q (spans_in es) ≡ option_map span_of (at q es)
found_in q [] = refl
found_in q (e ∷ es) =
    elim (eq_by_cmp nat_cmp q e.0) as (λ b. cond b (Some (span_of e.1)) (find nat_cmp q (spans_in es)) ≡ option_map span_of (cond b (Some e.1) (at q es))) [
      | true ↦ refl
      | false ↦ found_in q es
    ]

pub get_spans : (es : List (ℕ × SpanRecord)) (q : ℕ) → get (spans_of es) q ≡ option_map span_of (at q es)
get_spans es q = get-from_entries nat_cmp_total (spans_in es) q ∙ found_in q es

-- a map that answers as the records do is theirs
pub spans_same : (m : Spans) (es : List (ℕ × SpanRecord)) → ((q : ℕ) → get m q ≡ option_map span_of (at q es)) → m ≡ spans_of es
spans_same m es h = same_map nat_cmp_total nat_cmp-IsAntisymmetric m (spans_of es) (λ q. h q ∙ sym (get_spans es q))

pub span_at : (es : List (ℕ × SpanRecord)) (q : ℕ) (r : SpanRecord) → at q es ≡ Some r → get (spans_of es) q ≡ Some (span_of r)
span_at es q r e = get_spans es q ∙ ap (option_map span_of) e

pub record_at : (es : List (ℕ × SpanRecord)) (q : ℕ) (s : Span) → get (spans_of es) q ≡ Some s → (r : SpanRecord) × (at q es ≡ Some r) × (span_of r ≡ s)
record_at es q s e = by_case (at q es) refl (sym (get_spans es q) ∙ e)
  where
    by_case : (o : Option SpanRecord) → at q es ≡ o → option_map span_of o ≡ Some s → (r : SpanRecord) × (at q es ≡ Some r) × (span_of r ≡ s)
    by_case None a b = let no : ⊥ = cc in absurd no
    by_case (Some r) a b = (r, a, let same : span_of r ≡ s = cc in same)

-- a span without a record isn't in the store
pub nowhere : (es : List (ℕ × SpanRecord)) (m : Spans) (q : ℕ) → spans_of es ≡ m → at q es ≡ None → IsInStore m q → ⊥
nowhere es m q v none there =
    let no : None ≡ Some there.0 = sym (ap (option_map span_of) none) ∙ sym (get_spans es q) ∙ ap (λ (w : Spans). get w q) v ∙ there.1 in
    let not : ⊥ = cc in not

-- ---- children

abbrev pub weight : ℕ → SpanRecord → ℕ
weight x r = cond (is_parent x (parent_in r)) 1 0

pub parent_true : (x : ℕ) (o : Option ℕ) → is_parent x o ≡ true → o ≡ Some x
parent_true x None h = absurd (true≢false (sym h))
parent_true x (Some p) h = ap Some (sym (eqb-true x p h))

true_parent : (x : ℕ) (o : Option ℕ) → o ≡ Some x → is_parent x o ≡ true
true_parent x o h = ap (is_parent x) h ∙ eq-eqb x x refl

pub count_set : (m : Records) (k : ℕ) (v w : SpanRecord) (x : ℕ)
    → get m k ≡ Some v → parent_in w ≡ parent_in v → children_of (entries (insert m k w)) x ≡ children_of (entries m) x
count_set m k v w x e p = total_set (weight x) m k v w e (ap (λ (o : Option ℕ). cond (is_parent x o) 1 0) p)

pub count_removed : (m : Records) (k : ℕ) (v : SpanRecord) (x : ℕ)
    → get m k ≡ Some v → children_of (entries (remove m k)) x + weight x v ≡ children_of (entries m) x
count_removed m k v x e = total_removed (weight x) m k v e

pub count_added : (m : Records) (k : ℕ) (v : SpanRecord) (x : ℕ)
    → get m k ≡ None → children_of (entries (insert m k v)) x ≡ children_of (entries m) x + weight x v
count_added m k v x e = total_added (weight x) m k v e

counted_one : (es : List (ℕ × SpanRecord)) (k : ℕ) (v : SpanRecord) (x : ℕ) → at k es ≡ Some v → weight x v ≤ children_of es x
counted_one es k v x e =
    let s = sum_by-remove_entry (weight x) (is_at (nat_cmp k)) es in
    let w : unwrap_or (option_map (weight x) (at k es)) 0 ≡ weight x v = ap (λ (o : Option SpanRecord). unwrap_or (option_map (weight x) o) 0) e in
    omega arith

-- a span that a record names as its parent has a child
pub counted_child : (es : List (ℕ × SpanRecord)) (x : ℕ) → HasChild (spans_of es) x → 0 < children_of es x
counted_child es x h =
    let r = record_at es h.0 h.1 h.2 in
    let p : parent_in r.0 ≡ Some x = ap (λ (s : Span). s.parent) r.2 ∙ h.3 in
    let s = counted_one es h.0 r.0 x r.1 in
    let w : weight x r.0 ≡ 1 = ap (λ (b : Bool). cond b 1 0) (true_parent x (parent_in r.0) p) in
    omega arith

child_in : (es : List (ℕ × SpanRecord)) (x : ℕ)
    → IsDistinct (eq_by_cmp nat_cmp) (keys_of es) → 0 < children_of es x → (c : ℕ) × (r : SpanRecord) × (at c es ≡ Some r) × (parent_in r ≡ Some x)
child_in [] x d h = absurd (omega arith)
child_in (e ∷ es) x d h = by_case (is_parent x (parent_in e.1)) refl (λ l. child_in es x (IsDistinct-tail (eq_by_cmp nat_cmp) e.0 (keys_of es) d) l)
  where
    apart : (c : ℕ) (r : SpanRecord) → at c es ≡ Some r → c ≡ e.0 → ⊥
    apart c r a same =
        let none : at c es ≡ None = lookup-none (is_at (nat_cmp c)) es (none_past_head (eq_by_cmp_equiv nat_cmp_total) c e es d (same_test c e.0 same)) in
        let no : ⊥ = cc in no

    by_case : (b : Bool) → is_parent x (parent_in e.1) ≡ b → (0 < children_of es x → (c : ℕ) × (r : SpanRecord) × (at c es ≡ Some r) × (parent_in r ≡ Some x))
        → (c : ℕ) × (r : SpanRecord) × (at c (e ∷ es) ≡ Some r) × (parent_in r ≡ Some x)
    by_case true t rest = (e.0, e.1, ap (λ (b : Bool). cond b (Some e.1) (at e.0 es)) (same_test e.0 e.0 refl), parent_true x (parent_in e.1) t)
    by_case false t rest =
        let s = sum_by-cons (weight x) e.1 (values_of es) in
        let w : weight x e.1 ≡ 0 = ap (λ (b : Bool). cond b 1 0) t in
        let l : 0 < children_of es x = omega arith in
        let u = rest l in
        (u.0, u.1, ap (λ (b : Bool). cond b (Some e.1) (at u.0 es)) (other_test u.0 e.0 (apart u.0 u.1 u.2)) ∙ u.2, u.3)

pub child_found : (es : List (ℕ × SpanRecord)) (x : ℕ) → IsStrictlySortedBy nat_cmp (keys_of es) → 0 < children_of es x → HasChild (spans_of es) x
child_found es x o h =
    let u = child_in es x (IsDistinct-from_sorted nat_cmp (keys_of es) o) h in
    (u.0, span_of u.1, span_at es u.0 u.1 u.2, u.3)

kept_nil : IsKept []
unfolding IsStrictlySortedBy
kept_nil = record {
  counted = λ x r e. let no : ⊥ = cc in absurd no;
  forest = λ x r e. let no : None ≡ Some r = sym (get_spans [] x) ∙ e in let no2 : ⊥ = cc in absurd no2;
  ordered = tt;
}

pub kept_empty : IsKept (entries (empty {X = SpanRecord} {R = nat_cmp}))
kept_empty = subst IsKept (sym (none SpanRecord)) kept_nil

-- ---- changes
-- fs has w at k, and is as es elsewhere

pub record Changes (es : List (ℕ × SpanRecord)) (k : ℕ) (w : Option SpanRecord) (fs : List (ℕ × SpanRecord)) : Type 0 where
  pub there : at k fs ≡ w
  pub others : (q : ℕ) → (q ≡ k → ⊥) → at q fs ≡ at q es

pub changes_put : (m : Records) (k : ℕ) (w : SpanRecord) → Changes (entries m) k (Some w) (entries (insert m k w))
changes_put m k w = record {
  there = at_is (insert m k w) k ∙ get_inserted m k w;
  others = λ q ne. at_is (insert m k w) q ∙ get_beside_inserted m k q w (λ e. ne (sym e)) ∙ sym (at_is m q);
}

pub changes_gone : (m : Records) (k : ℕ) → Changes (entries m) k None (entries (remove m k))
changes_gone m k = record {
  there = at_is (remove m k) k ∙ taken_out m k;
  others = λ q ne. at_is (remove m k) q ∙ get_beside_removed m k q (λ e. ne (sym e)) ∙ sym (at_is m q);
}

pub is_some_at : (k : ℕ) (es : List (ℕ × SpanRecord)) (r : SpanRecord) → at k es ≡ Some r → IsSome (at k es)
is_some_at k es r e = ap is_some e

-- a map with an entry changed is what the changed records make
pub spans_put : (es fs : List (ℕ × SpanRecord)) (k : ℕ) (w : SpanRecord) → Changes es k (Some w) fs → spans_of fs ≡ insert (spans_of es) k (span_of w)
spans_put es fs k w h = sym (spans_same (insert (spans_of es) k (span_of w)) fs (λ q. elim (cases_eq q k) [
  | inl e ↦ ap (get (insert (spans_of es) k (span_of w))) e
      ∙ get_put (spans_of es) k (span_of w) ∙ sym (ap (option_map span_of) (ap (λ (x : ℕ). at x fs) e ∙ h.there))
  | inr ne ↦ get_beside (spans_of es) k (span_of w) q ne ∙ get_spans es q ∙ sym (ap (option_map span_of) (h.others q ne))
]))

pub spans_gone : (es fs : List (ℕ × SpanRecord)) (k : ℕ) → Changes es k None fs → spans_of fs ≡ remove (spans_of es) k
spans_gone es fs k h = sym (spans_same (remove (spans_of es) k) fs (λ q. elim (cases_eq q k) [
  | inl e ↦ ap (get (remove (spans_of es) k)) e ∙ get_removed (spans_of es) k ∙ sym (ap (option_map span_of) (ap (λ (x : ℕ). at x fs) e ∙ h.there))
  | inr ne ↦ get_kept (spans_of es) k q ne ∙ get_spans es q ∙ sym (ap (option_map span_of) (h.others q ne))
]))

-- the same parents make the same forest
pub forest_put : (m : Spans) (k : ℕ) (r s : Span) → get m k ≡ Some r → s.parent ≡ r.parent → IsForest m → IsForest (insert m k s)
forest_put m k r s g p f x t e = let c = old x t e in (c.0, chain_into m (insert m k s) (Some x) c.0 (λ q u h a. kept q u a) c.1)
  where
    kept : (q : ℕ) (u : Span) → get m q ≡ Some u → (v : Span) × (get (insert m k s) q ≡ Some v) × (v.parent ≡ u.parent)
    kept q u a = elim (cases_eq q k) [
      | inl e ↦
          let same : Some u ≡ Some r = sym a ∙ ap (get m) e ∙ g in
          let ur : u ≡ r = cc in
          (s, ap (get (insert m k s)) e ∙ get_put m k s, p ∙ sym (ap (λ (w : Span). w.parent) ur))
      | inr ne ↦ (u, get_beside m k s q ne ∙ a, refl)
    ]

    old : (x : ℕ) (t : Span) → get (insert m k s) x ≡ Some t → (xs : List ℕ) × IsChain m (Some x) xs
    old x t e = elim (cases_eq x k) [
      | inl same ↦ f x r (ap (get m) same ∙ g)
      | inr ne ↦ f x t (sym (get_beside m k s x ne) ∙ e)
    ]

-- a record is written anew, with its parent and its children
pub kept_written : (m : Records) (k : ℕ) (v w : SpanRecord)
    → IsKept (entries m) → get m k ≡ Some v → parent_in w ≡ parent_in v → w.children ≡ v.children → IsKept (entries (insert m k w))
kept_written m k v w h g p c = record {
  counted = λ x r a. elim (cases_eq x k) [
    | inl same ↦
        let both : Some r ≡ Some w = sym a ∙ ap (λ (y : ℕ). at y fs) same ∙ ch.there in
        let rw1 : r ≡ w = cc in
        ap (λ (u : SpanRecord). u.children) rw1 ∙ c ∙ h.counted x v (ap (λ (y : ℕ). at y es) same ∙ e) ∙ sym (count_set m k v w x g p)
    | inr ne ↦ h.counted x r (sym (ch.others x ne) ∙ a) ∙ sym (count_set m k v w x g p)
  ];
  forest = subst IsForest (sym (spans_put es fs k w ch)) (forest_put (spans_of es) k (span_of v) (span_of w) (span_at es k v e) p h.forest);
  ordered = ordered (insert m k w);
}
  where
    es : List (ℕ × SpanRecord)
    es = entries m

    fs : List (ℕ × SpanRecord)
    fs = entries (insert m k w)

    ch : Changes es k (Some w) fs
    ch = changes_put m k w

    e : at k es ≡ Some v
    e = at_is m k ∙ g

-- what the code tests is what the store means
pub has_child_iff : (es : List (ℕ × SpanRecord)) (x : ℕ) (r : SpanRecord)
    → IsKept es → at x es ≡ Some r → (r.children ≡ 0 → HasChild (spans_of es) x → ⊥) × (0 < r.children → HasChild (spans_of es) x)
has_child_iff es x r h e =
    let c = h.counted x r e in
    (λ z k. let l = counted_child es x k in absurd (omega arith), λ l. child_found es x h.ordered (subst (λ (m : ℕ). 0 < m) c l))

pub closing_iff : (es : List (ℕ × SpanRecord)) (x : ℕ) (r : SpanRecord) → IsKept es
    → at x es ≡ Some r → ((r.handles ≡ 0) × (r.children ≡ 0) → IsClosing (spans_of es) x) × (IsClosing (spans_of es) x → (r.handles ≡ 0) × (r.children ≡ 0))
closing_iff es x r h e = (
  λ z. (span_of r, span_at es x r e, z.0, (has_child_iff es x r h e).0 z.1),
  λ k.
      let same : Some k.0 ≡ Some (span_of r) = sym k.1 ∙ span_at es x r e in
      let kr : k.0 ≡ span_of r = cc in
      let hs : r.handles ≡ 0 = sym (ap (λ (s : Span). s.handles) kr) ∙ k.2 in
      (hs, elim (cases_zero r.children) [ inl z ↦ z | inr l ↦ absurd (k.3 ((has_child_iff es x r h e).1 l)) ]),
)
  where
    cases_zero : (a : ℕ) → (a ≡ 0) ⊎ (0 < a)
    cases_zero zero = inl refl
    cases_zero (suc a) = inr (omega arith)

pub open_iff : (es : List (ℕ × SpanRecord)) (x : ℕ) (r : SpanRecord) → IsKept es
    → at x es ≡ Some r → ((0 < r.handles) ⊎ (0 < r.children) → IsOpen (spans_of es) x) × (IsOpen (spans_of es) x → (0 < r.handles) ⊎ (0 < r.children))
open_iff es x r h e = (
  λ z. (span_of r, span_at es x r e, elim z [ inl l ↦ inl l | inr l ↦ inr ((has_child_iff es x r h e).1 l) ]),
  λ k.
      let same : Some k.0 ≡ Some (span_of r) = sym k.1 ∙ span_at es x r e in
      let kr : k.0 ≡ span_of r = cc in
      let hs : r.handles ≡ (k.0).handles = sym (ap (λ (s : Span). s.handles) kr) in
      elim k.2 [ inl l ↦ inl (let m = l in omega arith) | inr c ↦ inr (let l = counted_child es x c in let q = h.counted x r e in omega arith) ],
)
