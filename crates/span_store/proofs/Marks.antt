use Rattle.std.proofs.Common.{◌≡◌, ℕ, ◌+◌, ◌<◌, ◌≤◌, List, [], ◌∷◌, ◌++◌, length, slice_set, refl, sym, ap, subst, ◌∙◌, arith, Bool, true, false, true≢false}
use Rattle.std.proofs.Common.{cond, ◌||◌, ◌&&◌, not, nat_eq, ⊎_elim, reverse, take, drop, append_assoc, get_or, add-one}
use Rattle.std.proofs.Math.Bool.{or-false}
use Rattle.std.proofs.lemmas.Bool.{cases_Bool, or_parts, or_left, or_right, ne_eqb, eq-eqb, eqb-false, eqb-true}
use Rattle.std.proofs.lemmas.List.{append-nil, length-append, length-take-le, reverse-append, reverse-reverse, map-append, take-append-drop, take_more}
use Rattle.std.proofs.Math.Seq.{drop-cons, set-append_seam}
use Rattle.std.proofs.lemmas.List.Folds.{list_any-append}
use Rattle.std.proofs.lemmas.Grind.{reverse_onto}
use Rattle.span_core.specs.Span.{number_of}
use Rattle.span_store.specs.declared.stack.Entry.{Entry}
use Rattle.span_store.specs.LaneStack.{stands, leave, leaves_for_good}
use Rattle.span_store.specs.declared.bloom.Bloom.{Bloom}
use Rattle.span_store.specs.private.Bloom.{MayHold}
use Rattle.span_store.specs.private.Index.{times}
use Rattle.span_store.proofs.Times.{once_above}
use Rattle.span_store.specs.private.Marks.{ids, ids_down, AreMarkedDown, AreMarked, HoldBelow, HoldsAll, KeepsEntries, IsLastOf}

stands_append : (x : ℕ) (xs ys : List ℕ) → stands x (xs ++ ys) ≡ (stands x xs || stands x ys)
stands_append x xs ys = list_any-append (nat_eq x) xs ys

pub leave_apart : (x : ℕ) (xs : List ℕ) → stands x xs ≡ false → leave x xs ≡ xs
leave_apart x [] h = refl
leave_apart x (y ∷ ys) h =
    let p = or_parts (nat_eq x y) (stands x ys) h in
    ap (λ (b : Bool). cond b ys (y ∷ leave x ys)) p.0 ∙ ap (λ (zs : List ℕ). y ∷ zs) (leave_apart x ys p.1)

pub leave_split : (x y : ℕ) (above below : List ℕ) → y ≡ x → stands x above ≡ false → leave x (above ++ (y ∷ below)) ≡ above ++ below
leave_split x y [] below e h = ap (λ (b : Bool). cond b below (y ∷ leave x below)) (eq-eqb x y (sym e))
leave_split x y (z ∷ zs) below e h =
    let p = or_parts (nat_eq x z) (stands x zs) h in
    ap (λ (b : Bool). cond b (zs ++ (y ∷ below)) (z ∷ leave x (zs ++ (y ∷ below)))) p.0 ∙ ap (λ (ws : List ℕ). z ∷ ws) (leave_split x y zs below e p.1)

down_split : (t d : List Entry) (e : Entry) → reverse (t ++ (e ∷ d)) ≡ reverse d ++ (e ∷ reverse t)
down_split t d e = reverse-append t (e ∷ d) ∙ ap (λ (us : List Entry). us ++ reverse t) (reverse_onto d e []) ∙ append_assoc (reverse d) (e ∷ []) (reverse t)

pub flip : (x y : ℕ) → nat_eq x y ≡ false → nat_eq y x ≡ false
flip x y h = ne_eqb y x (λ e. eqb-false x y h (sym e))

-- without an entry whose id is no later entry's, the marks are right
marked_without : (above below : List Entry) (e : Entry)
    → stands (number_of e.id) (ids above) ≡ false → AreMarkedDown (above ++ (e ∷ below)) → AreMarkedDown (above ++ below)
marked_without [] below e apart h = h.1
marked_without (a ∷ above) below e apart h =
    let p = or_parts (nat_eq (number_of e.id) (number_of a.id)) (stands (number_of e.id) (ids above)) apart in
    let q = flip (number_of e.id) (number_of a.id) p.0 in
    (h.0 ∙ same a q, marked_without above below e p.1 h.1)
  where
    same : (a : Entry) → nat_eq (number_of a.id) (number_of e.id) ≡ false
        → stands (number_of a.id) (ids (above ++ (e ∷ below))) ≡ stands (number_of a.id) (ids (above ++ below))
    same a q =
        ap (stands (number_of a.id)) (map-append (λ (w : Entry). number_of w.id) above (e ∷ below))
        ∙ stands_append (number_of a.id) (ids above) ((number_of e.id) ∷ ids below)
        ∙ ap (λ (b : Bool). stands (number_of a.id) (ids above) || (b || stands (number_of a.id) (ids below))) q
        ∙ sym (ap (stands (number_of a.id)) (map-append (λ (w : Entry). number_of w.id) above below) ∙ stands_append (number_of a.id) (ids above) (ids below))

mark_at : (above below : List Entry) (e : Entry) → AreMarkedDown (above ++ (e ∷ below)) → e.duplicate ≡ stands (number_of e.id) (ids below)
mark_at [] below e h = h.0
mark_at (a ∷ above) below e h = mark_at above below e h.1

stands_down : (x : ℕ) (es : List Entry) → stands x (ids es) ≡ false → stands x (ids (reverse es)) ≡ false
stands_down x [] h = h
stands_down x (e ∷ es) h =
    let p = or_parts (nat_eq x (number_of e.id)) (stands x (ids es)) h in
    ap (λ (us : List Entry). stands x (ids us)) (reverse_onto es e [])
    ∙ ap (stands x) (map-append (λ (w : Entry). number_of w.id) (reverse es) (e ∷ []))
    ∙ stands_append x (ids (reverse es)) ((number_of e.id) ∷ [])
    ∙ ap (λ (b : Bool). b || (nat_eq x (number_of e.id) || false)) (stands_down x es p.1)
    ∙ ap (λ (b : Bool). b || false) p.0

-- ---- what the calls leave

pub pushed_down : (es : List Entry) (e : Entry) → reverse (es ++ (e ∷ [])) ≡ e ∷ reverse es
pushed_down es e = reverse-append es (e ∷ [])

pub marked_pushed : (es : List Entry) (e : Entry) → AreMarked es → e.duplicate ≡ stands (number_of e.id) (ids_down es) → AreMarked (es ++ (e ∷ []))
marked_pushed es e h m = subst AreMarkedDown (sym (pushed_down es e)) (m, h)

pub none_left : (es : List Entry) (x : ℕ) → stands x (ids es) ≡ false → (leave x (ids_down es) ≡ ids_down es) × (leaves_for_good x (ids_down es) ≡ false)
none_left es x h =
    let n = stands_down x es h in
    (leave_apart x (ids_down es) n, ap (λ (b : Bool). b && not (stands x (leave x (ids_down es)))) n)

-- without the last entry of x
pub record Popped (es fs : List Entry) (x : ℕ) (duplicate : Bool) : Type 0 where
  pub marked : AreMarked fs
  pub left : ids_down fs ≡ leave x (ids_down es)
  pub for_good : not duplicate ≡ leaves_for_good x (ids_down es)

popped_of : (t d : List Entry) (e : Entry) (x : ℕ)
    → (number_of e.id) ≡ x → stands x (ids d) ≡ false → AreMarked (t ++ (e ∷ d)) → Popped (t ++ (e ∷ d)) (t ++ d) x e.duplicate
popped_of t d e x is apart h =
    let s = down_split t d e in
    let h2 : AreMarkedDown (reverse d ++ (e ∷ reverse t)) = subst AreMarkedDown s h in
    let f : Entry → ℕ = λ w. number_of w.id in
    let above : stands x (ids (reverse d)) ≡ false = stands_down x d apart in
    let whole : ids_down (t ++ (e ∷ d)) ≡ ids (reverse d) ++ ((number_of e.id) ∷ ids (reverse t)) = ap ids s ∙ map-append f (reverse d) (e ∷ reverse t) in
    let rest : ids_down (t ++ d) ≡ ids (reverse d) ++ ids (reverse t) = ap ids (reverse-append t d) ∙ map-append f (reverse d) (reverse t) in
    let gone : leave x (ids_down (t ++ (e ∷ d))) ≡ ids_down (t ++ d) =
    ap (leave x) whole ∙ leave_split x (number_of e.id) (ids (reverse d)) (ids (reverse t)) is above ∙ sym rest in
    let here : stands x (ids_down (t ++ (e ∷ d))) ≡ true =
    ap (stands x) whole ∙ stands_append x (ids (reverse d)) ((number_of e.id) ∷ ids (reverse t))
    ∙ or_right (stands x (ids (reverse d)))
    (stands x ((number_of e.id) ∷ ids (reverse t))) (or_left (nat_eq x (number_of e.id)) (stands x (ids (reverse t))) (eq-eqb x (number_of e.id) (sym is))) in
    let again : stands x (ids_down (t ++ d)) ≡ e.duplicate =
    ap (stands x) rest ∙ stands_append x (ids (reverse d)) (ids (reverse t)) ∙ ap (λ (b : Bool). b || stands x (ids (reverse t))) above
    ∙ ap (λ (y : ℕ). stands y (ids (reverse t))) (sym is) ∙ sym (mark_at (reverse d) (reverse t) e h2) in
    record {
      marked =
          subst AreMarkedDown (sym (reverse-append t d)) (marked_without (reverse d) (reverse t) e (ap (λ (y : ℕ). stands y (ids (reverse d))) is ∙ above) h2);
      left = sym gone;
      for_good =
          sym (ap (λ (b : Bool). b && not (stands x (leave x (ids_down (t ++ (e ∷ d)))))) here ∙ ap (λ (ys : List ℕ). not (stands x ys)) gone ∙ ap not again);
    }

split_at : (es : List Entry) (i : ℕ) (d : Entry) → i < length es → es ≡ take i es ++ (get_or es i d ∷ drop (i + 1) es)
split_at es i d h =
    sym (take-append-drop i es) ∙ ap (λ (us : List Entry). take i es ++ us) (drop-cons es i d h ∙ ap (λ (n : ℕ). get_or es i d ∷ drop n es) (sym (add-one i)))

split_again : (es : List Entry) (i : ℕ) (r : Entry) → i < length es → r ≡ get_or es i r → es ≡ take i es ++ (r ∷ drop (i + 1) es)
split_again es i r h e = split_at es i r h ∙ ap (λ (w : Entry). take i es ++ (w ∷ drop (i + 1) es)) (sym e)

popped : (es : List Entry) (x i : ℕ) (r : Entry) → AreMarked es → IsLastOf es x i → r ≡ get_or es i r → Popped es (take i es ++ drop (i + 1) es) x r.duplicate
popped es x i r m h e =
    let s = split_again es i r h.within e in
    subst (λ (us : List Entry). Popped us (take i es ++ drop (i + 1) es) x r.duplicate) (sym s)
    (popped_of (take i es) (drop (i + 1) es) r x (ap (λ (w : Entry). number_of w.id) e ∙ h.there r) h.apart (subst AreMarked s m))

-- ---- what may stand on the stack
-- a filter that may hold what this one may, and x as well, may hold the spans with x after them

pub holds_pushed : (a b : Bloom) (es : List Entry) (e : Entry)
    → HoldsAll a (ids es) → ((x : ℕ) → MayHold a x → MayHold b x) → MayHold b (number_of e.id) → HoldsAll b (ids (es ++ (e ∷ [])))
holds_pushed a b es e h kept put = λ x on.
    ⊎_elim
    (λ (l : stands x (ids es) ≡ true). kept x (h x l))
    (λ (l : stands x (ids es) ≡ false).
    let last : stands x (ids (e ∷ [])) ≡ true = sym (ap (λ (b : Bool). b || stands x (ids (e ∷ []))) l)
    ∙ sym (stands_append x (ids es) (ids (e ∷ []))) ∙ sym (ap (stands x) (map-append (λ (w : Entry). number_of w.id) es (e ∷ []))) ∙ on in
    subst (MayHold b) (sym (only x (number_of e.id) last)) put)
    (cases_Bool (stands x (ids es)))
  where
    only : (x y : ℕ) → stands x (y ∷ []) ≡ true → x ≡ y
    only x y on = eqb-true x y (sym (or-false (nat_eq x y)) ∙ on)

one_more : (y : ℕ) (t d : List Entry) (e : Entry) → stands y (ids (t ++ d)) ≡ true → stands y (ids (t ++ (e ∷ d))) ≡ true
one_more y [] d e on = or_right (nat_eq y (number_of e.id)) (stands y (ids d)) on
one_more y (a ∷ t) d e on =
    ⊎_elim
    (λ (l : nat_eq y (number_of a.id) ≡ true). or_left (nat_eq y (number_of a.id)) (stands y (ids (t ++ (e ∷ d)))) l)
    (λ (l : nat_eq y (number_of a.id) ≡ false).
    or_right (nat_eq y (number_of a.id)) (stands y (ids (t ++ (e ∷ d)))) (one_more y t d e (sym (ap (λ (b : Bool). b || stands y (ids (t ++ d))) l) ∙ on)))
    (cases_Bool (nat_eq y (number_of a.id)))

-- newest first or oldest first, the same stand in a list
pub stands_up : (x : ℕ) (es : List Entry) → stands x (ids (reverse es)) ≡ true → stands x (ids es) ≡ true
stands_up x es on =
    ⊎_elim
    (λ (l : stands x (ids es) ≡ true). l)
    (λ (l : stands x (ids es) ≡ false). absurd (true≢false (sym on ∙ stands_down x es l)))
    (cases_Bool (stands x (ids es)))

holds_down : (b : Bloom) (es : List Entry) → HoldsAll b (ids es) → HoldsAll b (ids (reverse es))
holds_down b es h = λ x on. h x (stands_up x es on)

holds_up : (b : Bloom) (es : List Entry) → HoldsAll b (ids (reverse es)) → HoldsAll b (ids es)
holds_up b es h = λ x on. h x (stands_up x (reverse es) (ap (λ (us : List Entry). stands x (ids us)) (reverse-reverse es) ∙ on))

-- an entry's filter makes no difference to the spans
same_ids : (t d : List Entry) (a : Entry) (b : Bloom) → ids (t ++ (record a { before = b } ∷ d)) ≡ ids (t ++ (a ∷ d))
same_ids [] d a b = refl
same_ids (e ∷ t) d a b = ap (λ (xs : List ℕ). number_of e.id ∷ xs) (same_ids t d a b)

marked_again : (t d : List Entry) (a : Entry) (b : Bloom) → AreMarkedDown (t ++ (a ∷ d)) → AreMarkedDown (t ++ (record a { before = b } ∷ d))
marked_again [] d a b h = h
marked_again (e ∷ t) d a b h = (h.0 ∙ sym (ap (stands (number_of e.id)) (same_ids t d a b)), marked_again t d a b h.1)

-- without an entry, where that above it takes its filter over, each filter may hold all below it
below_taken : (t d : List Entry) (a e : Entry) → HoldBelow (t ++ (a ∷ (e ∷ d))) → HoldBelow (t ++ (record a { before = e.before } ∷ d))
below_taken [] d a e h = h.1
below_taken (u ∷ t) d a e h = (λ y on. h.0 y (more y on), below_taken t d a e h.1)
  where
    more : (y : ℕ) → stands y (ids (t ++ (record a { before = e.before } ∷ d))) ≡ true → stands y (ids (t ++ (a ∷ (e ∷ d)))) ≡ true
    more y on =
        sym (ap (λ (us : List Entry). stands y (ids us)) (append_assoc t (a ∷ []) (e ∷ d)))
        ∙ one_more y
        (t ++ (a ∷ [])) d e (ap (λ (us : List Entry). stands y (ids us)) (append_assoc t (a ∷ []) d) ∙ sym (ap (stands y) (same_ids t d a e.before)) ∙ on)

-- the last entry gone, its filter may hold all that are left
below_last : (t : List Entry) (e : Entry) → HoldBelow (reverse (t ++ (e ∷ []))) → HoldsAll e.before (ids t) × HoldBelow (reverse t)
below_last t e h = let k : HoldBelow (e ∷ reverse t) = subst HoldBelow (pushed_down t e) h in (holds_up e.before t k.0, k.1)

pub below_pushed : (es : List Entry) (e : Entry) → HoldsAll e.before (ids es) → HoldBelow (reverse es) → HoldBelow (reverse (es ++ (e ∷ [])))
below_pushed es e h k = subst HoldBelow (sym (pushed_down es e)) (holds_down e.before es h, k)

-- an entry of x is taken out, and what is left is kept
pub record Taken (es gs : List Entry) (b : Bloom) (x : ℕ) : Type 0 where
  pub keeps : KeepsEntries gs b
  pub left : ids_down gs ≡ leave x (ids_down es)

-- with one above it
within_at : (t d : List Entry) (b : Bloom) (x : ℕ) (r a : Entry)
    → KeepsEntries (t ++ (r ∷ (a ∷ d))) b → Popped (t ++ (r ∷ (a ∷ d))) (t ++ (a ∷ d)) x r.duplicate
    → Taken (t ++ (r ∷ (a ∷ d))) (slice_set (t ++ (a ∷ d)) (length t) (record a { before = r.before })) b x
within_at t d b x r a k p =
    let u : Entry = record a { before = r.before } in
    let down = down_split t d u in
    let two : reverse (t ++ (r ∷ (a ∷ d))) ≡ reverse d ++ (a ∷ (r ∷ reverse t)) =
    down_split t (a ∷ d) r ∙ ap (λ (us : List Entry). us ++ (r ∷ reverse t)) (reverse_onto d a []) ∙ append_assoc (reverse d) (a ∷ []) (r ∷ reverse t) in
    subst (λ (gs : List Entry). Taken (t ++ (r ∷ (a ∷ d))) gs b x) (sym (set-append_seam t a d u))
    (record {
      keeps = record {
        marked = subst AreMarkedDown (sym down) (marked_again (reverse d) (reverse t) a r.before (subst AreMarkedDown (down_split t d a) p.marked));
        held = λ y on. k.held y (one_more y t (a ∷ d) r (sym (ap (stands y) (same_ids t d a r.before)) ∙ on));
        before = subst HoldBelow (sym down) (below_taken (reverse d) (reverse t) a r (subst HoldBelow two k.before));
      };
      left = ap ids down ∙ same_ids (reverse d) (reverse t) a r.before ∙ sym (ap ids (down_split t d a)) ∙ p.left;
    })

get_or_seam : (t d : List Entry) (u z : Entry) → get_or (t ++ (u ∷ d)) (length t) z ≡ u
get_or_seam [] d u z = refl
get_or_seam (e ∷ t) d u z = get_or_seam t d u z

within_of : (t d : List Entry) (b : Bloom) (x : ℕ) (r a : Entry)
    → KeepsEntries (t ++ (r ∷ d)) b → Popped (t ++ (r ∷ d)) (t ++ d) x r.duplicate → a ≡ get_or (t ++ d) (length t) a → length t < length (t ++ d)
    → Taken (t ++ (r ∷ d)) (slice_set (t ++ d) (length t) (record a { before = r.before })) b x
within_of t [] b x r a k p same within = absurd (let e = ap length (append-nil t) in omega arith)
within_of t (u ∷ d) b x r a k p same within =
    let is : a ≡ u = same ∙ get_or_seam t d u a in
    subst (λ (w : Entry). Taken (t ++ (r ∷ (w ∷ d))) (slice_set (t ++ (w ∷ d)) (length t) (record a { before = r.before })) b x) is
    (within_at t d b x r a (subst (λ (w : Entry). KeepsEntries (t ++ (r ∷ (w ∷ d))) b) (sym is) k)
    (subst (λ (w : Entry). Popped (t ++ (r ∷ (w ∷ d))) (t ++ (w ∷ d)) x r.duplicate) (sym is) p))

-- as the last one
last_of : (t d : List Entry) (b : Bloom) (x : ℕ) (r : Entry)
    → KeepsEntries (t ++ (r ∷ d)) b → Popped (t ++ (r ∷ d)) (t ++ d) x r.duplicate → length (t ++ d) ≤ length t → Taken (t ++ (r ∷ d)) (t ++ d) r.before x
last_of t [] b x r k p none =
    let q = below_last t r k.before in
    record {
      keeps = record {
        marked = p.marked;
        held = subst (λ (us : List Entry). HoldsAll r.before (ids us)) (sym (append-nil t)) q.0;
        before = subst (λ (us : List Entry). HoldBelow (reverse us)) (sym (append-nil t)) q.1;
      };
      left = p.left;
    }
last_of t (u ∷ d) b x r k p none = absurd (let e = length-append t (u ∷ d) in omega arith)

pub taken_within : (es : List Entry) (b : Bloom) (x i : ℕ) (r a : Entry)
    → KeepsEntries es b → IsLastOf es x i → r ≡ get_or es i r → a ≡ get_or (take i es ++ drop (i + 1) es) i a → i < length (take i es ++ drop (i + 1) es)
    → Taken es (slice_set (take i es ++ drop (i + 1) es) i (record a { before = r.before })) b x
taken_within es b x i r a k h e same within =
    let t = take i es in
    let d = drop (i + 1) es in
    let s : es ≡ t ++ (r ∷ d) = split_again es i r h.within e in
    let n : length t ≡ i = length-take-le i es (omega (arith, h.within)) in
    subst (λ (us : List Entry). Taken us (slice_set (t ++ d) i (record a { before = r.before })) b x) (sym s)
    (subst (λ (j : ℕ). Taken (t ++ (r ∷ d)) (slice_set (t ++ d) j (record a { before = r.before })) b x) n
    (within_of t d b
    x r a (subst (λ (us : List Entry). KeepsEntries us b) s k) (subst (λ (us : List Entry). Popped us (t ++ d) x r.duplicate) s (popped es x i r k.marked h e))
    (subst (λ (j : ℕ). a ≡ get_or (t ++ d) j a) (sym n) same) (omega (arith, n, within))))

pub taken_last : (es : List Entry) (b : Bloom) (x i : ℕ) (r : Entry)
    → KeepsEntries es b → IsLastOf es x i → r ≡ get_or es i r → length (take i es ++ drop (i + 1) es) ≤ i → Taken es (take i es ++ drop (i + 1) es) r.before x
taken_last es b x i r k h e none =
    let t = take i es in
    let d = drop (i + 1) es in
    let s : es ≡ t ++ (r ∷ d) = split_again es i r h.within e in
    let n : length t ≡ i = length-take-le i es (omega (arith, h.within)) in
    subst (λ (us : List Entry). Taken us (t ++ d) r.before x) (sym s)
    (last_of t d b x r (subst (λ (us : List Entry). KeepsEntries us b) s k)
    (subst (λ (us : List Entry). Popped us (t ++ d) x r.duplicate) s (popped es x i r k.marked h e)) (omega (arith, n, none)))

-- whether that leaves it for good
pub for_good : (es : List Entry) (x i : ℕ) (r : Entry) → AreMarked es → IsLastOf es x i → r ≡ get_or es i r → not r.duplicate ≡ leaves_for_good x (ids_down es)
for_good es x i r m h e = (popped es x i r m h e).for_good

-- an entry of x is the last one, where x has no other
pub last_alone : (es : List Entry) (x i : ℕ) (d : Entry)
    → i < length es → number_of (get_or es i d).id ≡ x → times x (ids_down es) ≤ 1 → stands x (ids (drop (i + 1) es)) ≡ false
last_alone es x i d h is once =
    let t = take i es in
    let r = get_or es i d in
    let above = drop (i + 1) es in
    let whole : ids_down es ≡ ids (reverse above) ++ ((number_of r.id) ∷ ids (reverse t)) =
    ap ids_down (split_at es i d h) ∙ ap ids (down_split t above r) ∙ map-append (λ (w : Entry). number_of w.id) (reverse above) (r ∷ reverse t) in
    let apart = once_above x (number_of r.id) (ids (reverse above)) (ids (reverse t)) is (subst (λ (us : List ℕ). times x us ≤ 1) whole once) in
    ap (λ (us : List Entry). stands x (ids us)) (sym (reverse-reverse above)) ∙ stands_down x (reverse above) apart

-- ---- what an index is made of

-- the mark of each entry
pub marked_at : (es : List Entry) (i : ℕ) (d : Entry)
    → AreMarked es → i < length es → (get_or es i d).duplicate ≡ stands (number_of (get_or es i d).id) (ids_down (take i es))
marked_at es i d m h =
    let r = get_or es i d in
    let above = drop (i + 1) es in
    mark_at (reverse above) (reverse (take i es)) r (subst AreMarkedDown (down_split (take i es) above r) (subst AreMarked (split_at es i d h) m))

-- one entry more
pub ids_more : (es : List Entry) (i : ℕ) (d : Entry) → i < length es → ids_down (take (i + 1) es) ≡ number_of (get_or es i d).id ∷ ids_down (take i es)
ids_more es i d h = ap ids_down (take_more es i d h) ∙ ap ids (pushed_down (take i es) (get_or es i d))
