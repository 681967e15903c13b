use Rattle.std.proofs.Common.{◌≡◌, ℕ, ◌+◌, ◌-◌, ◌<◌, ◌⊎◌, List, [], ◌∷◌, Option, Some, None, refl, sym, ap, subst, ◌∙◌, inl, inr, arith, Bool, cond, zero, suc}
use Rattle.std.proofs.Common.{IfSome}
use Rattle.std.proofs.lemmas.Bool.{cases_eq, ne_eqb, eq-eqb}
use Rattle.std.specs.Option.{option_map, option_and_then, IsSomeAnd}
use Rattle.span_core.specs.Span.{number_of}
use Rattle.span_core.specs.declared.span.Id.{Id}
use Rattle.std.specs.List.Sorted.{IsStrictlySortedBy}
use Rattle.std.specs.Ordering.{nat_cmp}
use Rattle.std.specs.Map.{keys_of}
use Rattle.std.specs.FinMap.{entries, get, insert, remove}
use Rattle.span_store.specs.declared.span_record.SpanRecord.{SpanRecord}
use Rattle.span_store.specs.Store.{Span, Spans, IsChain, IsForest, is_parent, HasChild, IsClosing, IsOpen, parent_of}
use Rattle.span_store.specs.private.StoreRepr.{spans_of, children_of, at, fewer, IsKept}
use Rattle.span_store.specs.Data.{span_of, parent_in}
use Rattle.span_store.proofs.Closing.{forest_removed}
use Rattle.span_store.proofs.Entries.{at_is, ordered}
use Rattle.span_store.proofs.Kept.{Records, weight, Changes, changes_gone, changes_put, spans_gone, spans_same, get_spans, span_at, record_at, count_removed}
use Rattle.span_store.proofs.Kept.{count_set, counted_child, closing_iff, has_child_iff}

-- x is taken out of es, which leaves fs
pub record Removal (es fs : List (ℕ × SpanRecord)) (x : ℕ) (r : SpanRecord) : Type 0 where
  pub kept : IsKept es
  pub found : at x es ≡ Some r
  pub leaf : HasChild (spans_of es) x → ⊥
  pub changes : Changes es x None fs
  pub count : (q : ℕ) → children_of fs q + weight q r ≡ children_of es q
  pub ordered : IsStrictlySortedBy nat_cmp (keys_of fs)

pub found_by : (es : List (ℕ × SpanRecord)) (m : Spans) (x : ℕ)
    → spans_of es ≡ m → IsClosing m x → (r : SpanRecord) × (at x es ≡ Some r) × (HasChild (spans_of es) x → ⊥)
found_by es m x e k =
    let u = record_at es x k.0 (ap (λ (w : Spans). get w x) e ∙ k.1) in
    (u.0, u.1, λ c. k.3 (subst (λ (w : Spans). HasChild w x) e c))

-- what was taken out of the records is a removal
pub removal : (m : Records) (x : ℕ) (spans : Spans)
    → spans_of (entries m) ≡ spans → IsClosing spans x → IsKept (entries m) → (r : SpanRecord) × Removal (entries m) (entries (remove m x)) x r
removal m x spans e closing kept =
    let f = found_by (entries m) spans x e closing in (
      f.0,
      record {
        kept = kept;
        found = f.1;
        leaf = f.2;
        changes = changes_gone m x;
        count = λ q. count_removed m x f.0 q (sym (at_is m x) ∙ f.1);
        ordered = ordered (remove m x);
      },
    )

left : (es fs : List (ℕ × SpanRecord)) (x : ℕ) (r : SpanRecord)
    → Removal es fs x r → (q : ℕ) (t : SpanRecord) → at q fs ≡ Some t → (q ≡ x → ⊥) × (at q es ≡ Some t)
left es fs x r h q t a =
    elim (cases_eq q x) [
      | inl e ↦ let no : None ≡ Some t = sym h.changes.there ∙ ap (λ (y : ℕ). at y fs) (sym e) ∙ a in let not : ⊥ = cc in absurd not
      | inr ne ↦ (ne, sym (h.changes.others q ne) ∙ a)
    ]

forest_left : (es fs : List (ℕ × SpanRecord)) (x : ℕ) (r : SpanRecord) → Removal es fs x r → IsForest (spans_of fs)
forest_left es fs x r h = subst IsForest (sym (spans_gone es fs x h.changes)) (forest_removed (spans_of es) x h.kept.forest h.leaf)

-- a root is taken out
pub kept_root : (es fs : List (ℕ × SpanRecord)) (x : ℕ) (r : SpanRecord) → Removal es fs x r → parent_in r ≡ None → IsKept fs
kept_root es fs x r h p = record {
  counted = λ q t a.
      let u = left es fs x r h q t a in
      let c = h.count q in
      let w : weight q r ≡ 0 = ap (λ (o : Option ℕ). cond {A = ℕ} (is_parent q o) 1 0) p in
      let k = h.kept.counted q t u.1 in
      omega arith;
  forest = forest_left es fs x r h;
  ordered = h.ordered;
}

-- the parent of what is taken out stays, and counts a child
pub parent_there : (es fs : List (ℕ × SpanRecord)) (x p : ℕ) (r : SpanRecord)
    → Removal es fs x r → parent_in r ≡ Some p → (a : SpanRecord) × (at p fs ≡ Some a) × (0 < a.children) × (at p es ≡ Some a)
parent_there es fs x p r h e =
    let f = h.kept.forest x (span_of r) (span_at es x r h.found) in
    let s = above f.0 f.1 in
    let a = record_at es p s.0 s.1 in
    let ne : p ≡ x → ⊥ = λ same. h.leaf (x, span_of r, span_at es x r h.found, e ∙ ap Some same) in
    let some = counted_child es p (x, span_of r, span_at es x r h.found, e) in
    let c = h.kept.counted p a.0 a.1 in
    (a.0, h.changes.others p ne ∙ a.1, omega arith, a.1)
  where
    next : (ys : List ℕ) → IsChain (spans_of es) (Some p) ys → (s : Span) × (get (spans_of es) p ≡ Some s)
    next [] c = absurd c
    next (z ∷ zs) c = (c.1, c.2)

    above : (xs : List ℕ) → IsChain (spans_of es) (Some x) xs → (s : Span) × (get (spans_of es) p ≡ Some s)
    above [] c = absurd c
    above (y ∷ ys) c =
        let same : Some c.1 ≡ Some (span_of r) = sym c.2 ∙ span_at es x r h.found in
        let cr : c.1 ≡ span_of r = cc in
        next ys (subst (λ (o : Option ℕ). IsChain (spans_of es) o ys) (ap (λ (w : Span). w.parent) cr ∙ e) c.3)

-- and then the parent counts a child less
pub spans_fewer : (fs gs : List (ℕ × SpanRecord)) (p : ℕ) (a : SpanRecord) → at p fs ≡ Some a → Changes fs p (Some (fewer a)) gs → spans_of gs ≡ spans_of fs
spans_fewer fs gs p a e ch = sym (spans_same (spans_of fs) gs (λ q. elim (cases_eq q p) [
  | inl same ↦ ap (get (spans_of fs)) same ∙ span_at fs p a e ∙ sym (ap (option_map span_of) (ap (λ (y : ℕ). at y gs) same ∙ ch.there))
  | inr ne ↦ get_spans fs q ∙ sym (ap (option_map span_of) (ch.others q ne))
]))

pub kept_fewer : (es : List (ℕ × SpanRecord)) (m : Records) (x p : ℕ) (r a : SpanRecord)
    → Removal es (entries m) x r → parent_in r ≡ Some p → get m p ≡ Some a → IsKept (entries (insert m p (fewer a)))
kept_fewer es m x p r a h e f = record {
  counted = λ q t b. elim (cases_eq q p) [
    | inl same ↦
        let both : Some t ≡ Some (fewer a) = sym b ∙ ap (λ (y : ℕ). at y gs) same ∙ ch.there in
        let ta : t ≡ fewer a = cc in
        let tc : t.children ≡ a.children - 1 = ap (λ (w : SpanRecord). w.children) ta in
        let k : a.children ≡ children_of es p = h.kept.counted p a (left es fs x r h p a g).1 in
        let c = h.count p in
        let w : weight p r ≡ 1 = ap (λ (u : Option ℕ). cond {A = ℕ} (is_parent p u) 1 0) e ∙ ap (λ (u : Bool). cond {A = ℕ} u 1 0) (eq-eqb p p refl) in
        let s : children_of gs q ≡ children_of fs p = same_count q ∙ ap (children_of fs) same in
        omega arith
    | inr ne ↦
        let u = left es fs x r h q t (sym (ch.others q ne) ∙ b) in
        let k = h.kept.counted q t u.1 in
        let c = h.count q in
        let w : weight q r ≡ 0 = ap (λ (v : Option ℕ). cond {A = ℕ} (is_parent q v) 1 0) e ∙ ap (λ (v : Bool). cond {A = ℕ} v 1 0) (ne_eqb q p ne) in
        let s : children_of gs q ≡ children_of fs q = same_count q in
        omega arith
  ];
  forest = subst IsForest (sym (spans_fewer fs gs p a g ch)) (forest_left es fs x r h);
  ordered = ordered (insert m p (fewer a));
}
  where
    fs : List (ℕ × SpanRecord)
    fs = entries m

    gs : List (ℕ × SpanRecord)
    gs = entries (insert m p (fewer a))

    g : at p fs ≡ Some a
    g = at_is m p ∙ f

    ch : Changes fs p (Some (fewer a)) gs
    ch = changes_put m p (fewer a)

    same_count : (q : ℕ) → children_of gs q ≡ children_of fs q
    same_count q = count_set m p a (fewer a) q f refl

pub parent_at : (es : List (ℕ × SpanRecord)) (m : Spans) (x : ℕ) (r : SpanRecord) → spans_of es ≡ m → at x es ≡ Some r → parent_of m x ≡ parent_in r
parent_at es m x r e a = ap (λ (w : Spans). parent_of w x) (sym e) ∙ ap (option_and_then (λ s. s.parent)) (span_at es x r a)

pub some_next : {P Q : Id → Type 0} (o : Option Id) → IfSome o P → ((p : Id) → P p → Q p) → IfSome o Q
some_next None h f = tt
some_next (Some p) h f = f p h

-- the code's test of the parent
pub fewer_closing : (gs : List (ℕ × SpanRecord)) (p : ℕ) (a : SpanRecord) → IsKept gs → at p gs ≡ Some (fewer a)
    → 0 < a.children → ((a.handles ≡ 0) × (a.children ≡ 1) → IsClosing (spans_of gs) p) × (IsClosing (spans_of gs) p → (a.handles ≡ 0) × (a.children ≡ 1))
fewer_closing gs p a h e l =
    let iff = closing_iff gs p (fewer a) h e in
    (λ z. iff.0 (z.0, let one = z.1 in omega arith), λ k. let z = iff.1 k in (z.0, let one : a.children - 1 ≡ 0 = z.1 in omega arith))

-- what lose_child says, where the records are known
pub record Lost (es gs : List (ℕ × SpanRecord)) (x p : ℕ) (a : SpanRecord) : Type 0 where
  pub kept : IsKept gs
  pub spans : spans_of gs ≡ remove (spans_of es) x
  pub closing : (a.handles ≡ 0) × (a.children ≡ 1) → IsClosing (spans_of gs) p
  pub opened : ((a.handles ≡ 0) × (a.children ≡ 1) → ⊥) → IsOpen (spans_of gs) p

pub lost : (es : List (ℕ × SpanRecord)) (m : Records) (x p : ℕ) (r a : SpanRecord)
    → Removal es (entries m) x r → parent_in r ≡ Some p → get m p ≡ Some a → 0 < a.children → Lost es (entries (insert m p (fewer a))) x p a
lost es m x p r a h e f l = record {
  kept = k;
  spans = spans_fewer (entries m) gs p a (at_is m p ∙ f) ch ∙ spans_gone es (entries m) x h.changes;
  closing = (fewer_closing gs p a k ch.there l).0;
  opened = λ ne. (span_of (fewer a), span_at gs p (fewer a) ch.there, by_case a.handles refl a.children refl ne);
}
  where
    gs : List (ℕ × SpanRecord)
    gs = entries (insert m p (fewer a))

    ch : Changes (entries m) p (Some (fewer a)) gs
    ch = changes_put m p (fewer a)

    k : IsKept gs
    k = kept_fewer es m x p r a h e f

    by_case : (i : ℕ) → a.handles ≡ i → (j : ℕ) → a.children ≡ j → ((a.handles ≡ 0) × (a.children ≡ 1) → ⊥) → (0 < a.handles) ⊎ HasChild (spans_of gs) p
    by_case (suc i) hi j hj ne = inl (omega arith)
    by_case zero hi zero hj ne = absurd (omega arith)
    by_case zero hi (suc zero) hj ne = absurd (ne (hi, hj ∙ refl))
    by_case zero hi (suc (suc j)) hj ne = inr ((has_child_iff gs p (fewer a) k ch.there).1 (let k : 0 < a.children - 1 = omega arith in k))

pub some_and : (P : SpanRecord → Type 0) (o : Option SpanRecord) (a : SpanRecord) → o ≡ Some a → P a → IsSomeAnd o P
some_and P o a e p = subst (λ (w : Option SpanRecord). IsSomeAnd w P) (sym e) p

pub at_some : (P : SpanRecord → Type 0) (o : Option SpanRecord) (a : SpanRecord) → o ≡ Some a → IsSomeAnd o P → P a
at_some P o a e p = subst (λ (w : Option SpanRecord). IsSomeAnd w P) e p

-- ---- the whole of what `remove` does
-- the parent that was answered is the record's

pub parent_is : (es fs : List (ℕ × SpanRecord)) (x : ℕ) (r : SpanRecord) (o : Option Id)
    → Removal es fs x r → option_map (λ s. s.parent) (at x es) ≡ Some o → parent_in r ≡ option_map number_of o
parent_is es fs x r o h e =
    let both : Some r.parent ≡ Some o = ap (option_map (λ s. s.parent)) (sym h.found) ∙ e in
    let same : r.parent ≡ o = cc in
    ap (option_map number_of) same

-- what taking out a root leaves
pub record RootGone (m k : Records) (x : ℕ) : Type 0 where
  pub kept : IsKept (entries k)
  pub spans : spans_of (entries k) ≡ remove (spans_of (entries m)) x
  pub parent : parent_of (spans_of (entries m)) x ≡ None

pub root_gone : (m : Records) (x : ℕ)
    → (r : SpanRecord) × Removal (entries m) (entries (remove m x)) x r → option_map (λ s. s.parent) (get m x) ≡ Some None → RootGone m (remove m x) x
root_gone m x u e =
    let p = parent_is (entries m) (entries (remove m x)) x u.0 None u.1 (ap (option_map (λ s. s.parent)) (at_is m x) ∙ e) in
    record {
      kept = kept_root (entries m) (entries (remove m x)) x u.0 u.1 p;
      spans = spans_gone (entries m) (entries (remove m x)) x (u.1).changes;
      parent = parent_at (entries m) (spans_of (entries m)) x u.0 refl (u.1).found ∙ p;
    }

-- the parent has a child to lose
pub child_to_lose : (m : Records) (x : ℕ) (p : Id)
    → (r : SpanRecord) × Removal (entries m) (entries (remove m x)) x r → option_map (λ s. s.parent) (get m x) ≡ Some (Some p)
    → IsSomeAnd (get (remove m x) (number_of p)) (λ r. 0 < r.children)
child_to_lose m x p u e =
    let is = parent_is (entries m) (entries (remove m x)) x u.0 (Some p) u.1 (ap (option_map (λ s. s.parent)) (at_is m x) ∙ e) in
    let a = parent_there (entries m) (entries (remove m x)) x (number_of p) u.0 u.1 is in
    some_and (λ v. 0 < v.children) (get (remove m x) (number_of p)) a.0 (sym (at_is (remove m x) (number_of p)) ∙ a.1) a.2

-- what taking out a child leaves, where the parent answers itself if it is closing
pub record ChildGone (m w : Records) (x : ℕ) (p : Id) (next : Option Id) : Type 0 where
  pub kept : IsKept (entries w)
  pub spans : spans_of (entries w) ≡ remove (spans_of (entries m)) x
  pub parent : parent_of (spans_of (entries m)) x ≡ Some (number_of p)
  pub closing : IfSome next (λ q. (parent_of (spans_of (entries m)) x ≡ Some (number_of q)) × IsClosing (spans_of (entries w)) (number_of q))
  pub still_open : next ≡ None → IsOpen (spans_of (entries w)) (number_of p)

pub child_gone : (m w : Records) (x : ℕ) (p : Id) (next : Option Id)
    → (r : SpanRecord) × Removal (entries m) (entries (remove m x)) x r → option_map (λ s. s.parent) (get m x) ≡ Some (Some p)
    → IsSomeAnd (get (remove m x) (number_of p)) (λ r. w ≡ insert (remove m x) (number_of p) (fewer r))
    → IfSome next (λ i. (i ≡ p) × IsSomeAnd (get (remove m x) (number_of p)) (λ r. (r.handles ≡ 0) × (r.children ≡ 1)))
    → (next ≡ None → IsSomeAnd (get (remove m x) (number_of p)) (λ r. (r.handles ≡ 0) × (r.children ≡ 1) → ⊥)) → ChildGone m w x p next
child_gone m w x p next u e wrote closes stays =
    let q : ℕ = number_of p in
    let k : Records = remove m x in
    let es = entries m in
    let is = parent_is es (entries k) x u.0 (Some p) u.1 (ap (option_map (λ s. s.parent)) (at_is m x) ∙ e) in
    let a = parent_there es (entries k) x q u.0 u.1 is in
    let f : get k q ≡ Some a.0 = sym (at_is k q) ∙ a.1 in
    let new : w ≡ insert k q (fewer a.0) = at_some (λ v. w ≡ insert k q (fewer v)) (get k q) a.0 f wrote in
    let l : Lost es (entries (insert k q (fewer a.0))) x q a.0 = lost es k x q u.0 a.0 u.1 is f a.2 in
    let parent : parent_of (spans_of es) x ≡ Some q = parent_at es (spans_of es) x u.0 refl (u.1).found ∙ is in
    record {
      kept = subst (λ (v : Records). IsKept (entries v)) (sym new) l.kept;
      spans = ap (λ (v : Records). spans_of (entries v)) new ∙ l.spans;
      parent = parent;
      closing = some_next next closes (λ i h. (
        parent ∙ ap (λ (j : Id). Some (number_of j)) (sym h.0),
        subst (λ (v : Records). IsClosing (spans_of (entries v)) (number_of i))
            (sym new) (subst (λ (j : Id). IsClosing (spans_of (entries (insert k q (fewer a.0)))) (number_of j)) (sym h.0)
            (l.closing (at_some (λ v. (v.handles ≡ 0) × (v.children ≡ 1)) (get k q) a.0 f h.1))),
      ));
      still_open = λ none. subst (λ (v : Records). IsOpen (spans_of (entries v)) q)
          (sym new) (l.opened (at_some (λ v. (v.handles ≡ 0) × (v.children ≡ 1) → ⊥) (get k q) a.0 f (stays none)));
    }
