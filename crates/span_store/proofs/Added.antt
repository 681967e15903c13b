use Rattle.std.proofs.Common.{◌≡◌, ℕ, ◌+◌, ◌<◌, List, [], ◌∷◌, Option, Some, None, refl, sym, ap, subst, ◌∙◌, inl, inr, arith, Bool, true, cond, zero, suc}
use Rattle.std.proofs.Common.{IfSome, is_some}
use Rattle.std.proofs.lemmas.Bool.{cases_eq, eq-eqb, ne_eqb}
use Rattle.std.specs.FinMap.{entries, get, insert}
use Rattle.std.specs.FinSet.{contains}
use Rattle.std.specs.List.Sorted.{IsStrictlySortedBy}
use Rattle.std.specs.Map.{keys_of}
use Rattle.std.specs.Option.{option_map}
use Rattle.std.specs.Ordering.{nat_cmp}
use Rattle.span_core.specs.Span.{number_of}
use Rattle.span_core.specs.declared.span.Id.{Id}
use Rattle.span_core.specs.declared.span.Lane.{Lane}
use Rattle.span_core.specs.declared.span.Parent.TheVariants.{Contextual, Explicit, Root}
use Rattle.span_core.specs.declared.span.Parent.{Parent}
use Rattle.span_store.proofs.Chains.{get_beside, get_put}
use Rattle.span_store.proofs.Closing.{chain_into}
use Rattle.span_store.proofs.Entries.{at_is, ordered}
use Rattle.span_store.proofs.Kept.{Changes, Records, changes_put, child_found, count_added, count_set, get_spans, record_at, span_at, spans_put, spans_same}
use Rattle.span_store.proofs.Kept.{weight}
use Rattle.span_store.specs.private.StoreRepr.{AreKeptIssued, IsKept, KeptSpans, at, children_of, more, spans_of}
use Rattle.span_store.specs.Data.{parent_in, span_of}
use Rattle.span_store.specs.Step.{IsParentFor}
use Rattle.span_store.specs.Store.{IsChain, IsForest, IsInStore, Span, Spans, Store, is_parent}
use Rattle.span_store.specs.declared.span_record.SpanRecord.{SpanRecord}

-- ---- the forest grows by a leaf

abbrev pub IsParentIn : Spans → Option ℕ → Type 0
IsParentIn m o = IfSome o (λ p. (r : Span) × (get m p ≡ Some r))

pub forest_added : (m : Spans) (id : ℕ) (s : Span) → get m id ≡ None → IsForest m → IsParentIn m s.parent → IsForest (insert m id s)
forest_added m id s none f p x t e = elim (cases_eq x id) [
  | inl same ↦ let c = whole s.parent p in (id ∷ c.0, subst (λ (y : ℕ). IsChain (insert m id s) (Some y) (id ∷ c.0)) (sym same) (refl, s, get_put m id s, c.1))
  | inr ne ↦ let c = f x t (sym (get_beside m id s x ne) ∙ e) in (c.0, into (Some x) c.0 c.1)
]
  where
    into : (o : Option ℕ) (xs : List ℕ) → IsChain m o xs → IsChain (insert m id s) o xs
    into o xs c = chain_into m (insert m id s) o xs
        (λ q r h a. (r, get_beside m id s q (λ same. let no : None ≡ Some r = sym none ∙ ap (get m) (sym same) ∙ a in let not : ⊥ = cc in not) ∙ a, refl)) c

    whole : (o : Option ℕ) → IsParentIn m o → (xs : List ℕ) × IsChain (insert m id s) o xs
    whole None p = ([], tt)
    whole (Some q) p = let c = f q p.0 p.1 in (c.0, into (Some q) c.0 c.1)

-- ---- the records

parent_of_child : (m : Spans) (c x : ℕ) (r : Span) → IsForest m → get m c ≡ Some r → r.parent ≡ Some x → (s : Span) × (get m x ≡ Some s)
parent_of_child m c x r f e p = let u = f c r e in second u.0 u.1
  where
    second : (xs : List ℕ) → IsChain m (Some c) xs → (s : Span) × (get m x ≡ Some s)
    second [] h = absurd h
    second (y ∷ ys) h =
        let same : Some h.1 ≡ Some r = sym h.2 ∙ e in
        let hr : h.1 ≡ r = cc in
        third ys (subst (λ (o : Option ℕ). IsChain m o ys) (ap (λ (w : Span). w.parent) hr ∙ p) h.3)
      where
        third : (ys : List ℕ) → IsChain m (Some x) ys → (s : Span) × (get m x ≡ Some s)
        third [] k = absurd k
        third (z ∷ zs) k = (k.1, k.2)

no_children : (es : List (ℕ × SpanRecord)) (x : ℕ) → IsKept es → at x es ≡ None → children_of es x ≡ 0
no_children es x h none = by_case (children_of es x) refl
  where
    by_case : (k : ℕ) → children_of es x ≡ k → children_of es x ≡ 0
    by_case zero e = e
    by_case (suc k) e =
        let l : 0 < children_of es x = omega arith in
        let c = child_found es x h.ordered l in
        let p = parent_of_child (spans_of es) c.0 x c.1 h.forest c.2 c.3 in
        let no : None ≡ Some p.0 = sym (ap (option_map span_of) none) ∙ sym (get_spans es x) ∙ p.1 in
        let not : ⊥ = cc in absurd not

-- what is kept, where the count of the parent may be one short
pub record Grown (es fs : List (ℕ × SpanRecord)) (x : ℕ) (r : SpanRecord) : Type 0 where
  pub new : at x es ≡ None
  pub there : at x fs ≡ Some r
  pub others : (q : ℕ) → (q ≡ x → ⊥) → at q fs ≡ at q es
  pub count : (q : ℕ) → children_of fs q ≡ children_of es q + weight q r
  pub forest : IsForest (spans_of fs)
  pub ordered : IsStrictlySortedBy nat_cmp (keys_of fs)
  pub spans : spans_of fs ≡ insert (spans_of es) x (span_of r)

pub grown : (m : Records) (x : ℕ) (r : SpanRecord)
    → IsKept (entries m) → get m x ≡ None → IsParentIn (spans_of (entries m)) (parent_in r) → Grown (entries m) (entries (insert m x r)) x r
grown m x r h none p =
    let ch = changes_put m x r in
    let spans = spans_put (entries m) (entries (insert m x r)) x r ch in
    record {
      new = at_is m x ∙ none;
      there = ch.there;
      others = ch.others;
      count = λ q. count_added m x r q none;
      forest = subst IsForest
          (sym spans) (forest_added (spans_of (entries m)) x (span_of r) (get_spans (entries m) x ∙ ap (option_map span_of) (at_is m x ∙ none)) h.forest p);
      ordered = ordered (insert m x r);
      spans = spans;
    }

kept_root_added : (es fs : List (ℕ × SpanRecord)) (x : ℕ) (r : SpanRecord) → IsKept es → Grown es fs x r → parent_in r ≡ None → r.children ≡ 0 → IsKept fs
kept_root_added es fs x r h g p z = record {
  counted = λ q t a.
      let c = g.count q in
      let w : weight q r ≡ 0 = ap (λ (o : Option ℕ). cond {A = ℕ} (is_parent q o) 1 0) p in
      elim (cases_eq q x) [
        | inl same ↦
            let both : Some t ≡ Some r = sym a ∙ ap (λ (y : ℕ). at y fs) same ∙ g.there in
            let tr : t ≡ r = cc in
            let tz : t.children ≡ 0 = ap (λ (u : SpanRecord). u.children) tr ∙ z in
            let k : children_of es q ≡ 0 = no_children es q h (ap (λ (y : ℕ). at y es) same ∙ g.new) in
            omega arith
        | inr ne ↦ let k = h.counted q t (sym (g.others q ne) ∙ a) in omega arith
      ];
  forest = g.forest;
  ordered = g.ordered;
}

-- the parent counts a child more
spans_more : (fs gs : List (ℕ × SpanRecord)) (p : ℕ) (a : SpanRecord) → at p fs ≡ Some a → Changes fs p (Some (more a)) gs → spans_of gs ≡ spans_of fs
spans_more fs gs p a e ch = sym (spans_same (spans_of fs) gs (λ q. elim (cases_eq q p) [
  | inl same ↦ ap (get (spans_of fs)) same ∙ span_at fs p a e ∙ sym (ap (option_map span_of) (ap (λ (y : ℕ). at y gs) same ∙ ch.there))
  | inr ne ↦ get_spans fs q ∙ sym (ap (option_map span_of) (ch.others q ne))
]))

kept_child_added : (es : List (ℕ × SpanRecord)) (m : Records) (x p : ℕ) (r a : SpanRecord)
    → IsKept es → Grown es (entries m) x r → parent_in r ≡ Some p → r.children ≡ 0 → (p ≡ x → ⊥) → get m p ≡ Some a → IsKept (entries (insert m p (more a)))
kept_child_added es m x p r a h g e z apart f = record {
  counted = λ q t b.
      let c = g.count q in
      let s : children_of gs q ≡ children_of fs q = count_set m p a (more a) q f refl in
      elim (cases_eq q p) [
        | inl same ↦
            let both : Some t ≡ Some (more a) = sym b ∙ ap (λ (y : ℕ). at y gs) same ∙ ch.there in
            let ta : t ≡ more a = cc in
            let tc : t.children ≡ a.children + 1 = ap (λ (w : SpanRecord). w.children) ta in
            let k : a.children ≡ children_of es p = h.counted p a (sym (g.others p apart) ∙ above) in
            let j : children_of es p ≡ children_of es q = ap (children_of es) (sym same) in
            let w : weight q r ≡ 1 = ap (λ (u : Option ℕ). cond {A = ℕ} (is_parent q u) 1 0) e ∙ ap (λ (u : Bool). cond {A = ℕ} u 1 0) (eq-eqb q p same) in
            omega arith
        | inr ne ↦
            let w : weight q r ≡ 0 = ap (λ (v : Option ℕ). cond {A = ℕ} (is_parent q v) 1 0) e ∙ ap (λ (v : Bool). cond {A = ℕ} v 1 0) (ne_eqb q p ne) in
            elim (cases_eq q x) [
              | inl same ↦
                  let both : Some t ≡ Some r = sym b ∙ ch.others q ne ∙ ap (λ (y : ℕ). at y fs) same ∙ g.there in
                  let tr : t ≡ r = cc in
                  let tz : t.children ≡ 0 = ap (λ (u : SpanRecord). u.children) tr ∙ z in
                  let k : children_of es q ≡ 0 = no_children es q h (ap (λ (y : ℕ). at y es) same ∙ g.new) in
                  omega arith
              | inr new ↦ let k = h.counted q t (sym (g.others q new) ∙ (sym (ch.others q ne) ∙ b)) in omega arith
            ]
      ];
  forest = subst IsForest (sym (spans_more fs gs p a above ch)) g.forest;
  ordered = ordered (insert m p (more a));
}
  where
    fs : List (ℕ × SpanRecord)
    fs = entries m

    gs : List (ℕ × SpanRecord)
    gs = entries (insert m p (more a))

    ch : Changes fs p (Some (more a)) gs
    ch = changes_put m p (more a)

    above : at p fs ≡ Some a
    above = at_is m p ∙ f

-- what adding a span leaves
pub record Added (m g : Records) (x : ℕ) (r : SpanRecord) : Type 0 where
  pub kept : IsKept (entries g)
  pub spans : spans_of (entries g) ≡ insert (spans_of (entries m)) x (span_of r)

-- a root is added
pub added_root : (m : Records) (x : ℕ) (r : SpanRecord) → IsKept (entries m) → get m x ≡ None → r.children ≡ 0 → r.parent ≡ None → Added m (insert m x r) x r
added_root m x r h none z e =
    let is : parent_in r ≡ None = ap (option_map number_of) e in
    let g = grown m x r h none (subst (IsParentIn (spans_of (entries m))) (sym is) tt) in
    record { kept = kept_root_added (entries m) (entries (insert m x r)) x r h g is z; spans = g.spans }

-- a child is added, and its parent counts it
pub added_child : (m : Records) (x : ℕ) (r a : SpanRecord) (i : Id) → IsKept (entries m)
    → get m x ≡ None → r.children ≡ 0 → r.parent ≡ Some i → get m (number_of i) ≡ Some a → Added m (insert (insert m x r) (number_of i) (more a)) x r
added_child m x r a i h none z e f =
    let p : ℕ = number_of i in
    let is : parent_in r ≡ Some p = ap (option_map number_of) e in
    let there : at p (entries m) ≡ Some a = at_is m p ∙ f in
    let g = grown m x r h none (subst (IsParentIn (spans_of (entries m))) (sym is) (span_of a, span_at (entries m) p a there)) in
    let apart : p ≡ x → ⊥ = λ same. (let both : None ≡ Some a = sym none ∙ ap (get m) (sym same) ∙ f in let no : ⊥ = cc in no) in
    let mid : Records = insert m x r in
    let above : get mid p ≡ Some a = sym (at_is mid p) ∙ g.others p apart ∙ there in
    record {
      kept = kept_child_added (entries m) mid x p r a h g is z apart above;
      spans = spans_more (entries mid) (entries (insert mid p (more a))) p a (at_is mid p ∙ above) (changes_put mid p (more a)) ∙ g.spans;
    }

-- the chosen parent is there
pub chosen_there : (s : Store) (lane : Lane) (asked : Parent) (o : Option ℕ) → IsParentFor s lane asked o → IsParentIn s.spans o
chosen_there s lane asked None h = tt
chosen_there s lane Root (Some p) h = let no : ⊥ = cc in absurd no
chosen_there s lane Contextual (Some p) h = ((h.1).0, (h.1).1)
chosen_there s lane (Explicit x) (Some p) h = let same : p ≡ number_of x = (let e = h.0 in cc) in ((h.1).0, ap (get s.spans) same ∙ (h.1).1)

pub parent_record : (m : Records) (o : Option ℕ) → IsParentIn (spans_of (entries m)) o → IfSome o (λ p. (r : SpanRecord) × (get m p ≡ Some r))
parent_record m None h = tt
parent_record m (Some p) h = let r = record_at (entries m) p h.0 h.1 in (r.0, sym (at_is m p) ∙ r.1)

-- every span in the store was issued
pub all_issued : (s : KeptSpans) → AreKeptIssued s → (x : ℕ) → IsInStore (spans_of (entries s.records)) x → contains s.issued x ≡ true
all_issued s h x there =
    let r = record_at (entries s.records) x there.0 there.1 in
    h x (ap is_some (sym (at_is s.records x) ∙ r.1))
