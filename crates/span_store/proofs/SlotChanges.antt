-- What the slots keep true as one of them changes.
use Rattle.std.proofs.Common.{◌≡◌, ℕ, ◌+◌, ◌<◌, ◌≤◌, max, zero, suc, Bool, true, false, cond, not, nat_eq, nat_lt, List, [], ◌∷◌, ◌++◌, length, slice_get}
use Rattle.std.proofs.Common.{slice_set, Option, None, Some, sum_by, count_by, refl, sym, ap, subst, ◌∙◌, inl, inr, arith, length-set}
use Rattle.std.proofs.lemmas.Bool.{cases_eq, eq-eqb, ne_eqb, lt-ltb, le-ltb, ltb-true}
use Rattle.std.proofs.lemmas.List.{length_push}
use Rattle.std.proofs.lemmas.List.Sums.{sum_by_push, sum_by-set}
use Rattle.std.proofs.lemmas.Option.{slice_get_within, slice_get_past, get_or_from_slice_get}
use Rattle.std.specs.Option.{option_map_or}
use Rattle.span_store.specs.private.Slot.{issued_at, is_held, is_free, is_retired, is_free_at, IsSound, first_held}
use Rattle.span_store.specs.declared.limits.Limits.{Limits}
use Rattle.span_store.specs.declared.slot.Slot.{Slot}
use Rattle.span_store.proofs.Slotting.{ChangesAt}
use Rattle.span_store.proofs.SlotCounts.{all_slots}

-- ---- a slot of a list

abbrev pub slot_at : ℕ → Option ℕ → Slot
slot_at g k = record { generation = g; key = k }

pub changes_set : (ps : List Slot) (i : ℕ) (p q : Slot) → slice_get ps i ≡ Some p → ChangesAt ps (slice_set ps i q) i q
changes_set [] i p q e = absurd (cc)
changes_set (r ∷ ps) zero p q e = record { there = refl; others = λ j. by_index j }
  where
    by_index : (j : ℕ) → (j ≡ 0 → ⊥) → slice_get (q ∷ ps) j ≡ slice_get (r ∷ ps) j
    by_index zero ne = absurd (ne refl)
    by_index (suc j) ne = refl
changes_set (r ∷ ps) (suc i) p q e = later (changes_set ps i p q e)
  where
    later : ChangesAt ps (slice_set ps i q) i q → ChangesAt (r ∷ ps) (r ∷ slice_set ps i q) (suc i) q
    later ch = record { there = ch.there; others = λ j. by_index j }
      where
        by_index : (j : ℕ) → (j ≡ suc i → ⊥) → slice_get (r ∷ slice_set ps i q) j ≡ slice_get (r ∷ ps) j
        by_index zero ne = refl
        by_index (suc j) ne = ch.others j (λ e. ne (ap suc e))

pub changes_push : (ps : List Slot) (q : Slot) → ChangesAt ps (ps ++ q ∷ []) (length ps) q
changes_push [] q = record { there = refl; others = λ j. by_index j }
  where
    by_index : (j : ℕ) → (j ≡ 0 → ⊥) → slice_get (q ∷ []) j ≡ slice_get {X = Slot} [] j
    by_index zero ne = absurd (ne refl)
    by_index (suc j) ne = refl
changes_push (r ∷ ps) q = later (changes_push ps q)
  where
    later : ChangesAt ps (ps ++ q ∷ []) (length ps) q → ChangesAt (r ∷ ps) (r ∷ (ps ++ q ∷ [])) (suc (length ps)) q
    later ch = record { there = ch.there; others = λ j. by_index j }
      where
        by_index : (j : ℕ) → (j ≡ suc (length ps) → ⊥) → slice_get (r ∷ (ps ++ q ∷ [])) j ≡ slice_get (r ∷ ps) j
        by_index zero ne = refl
        by_index (suc j) ne = ch.others j (λ e. ne (ap suc e))

count_set : (f : Slot → Bool) (ps : List Slot) (i : ℕ) (p q : Slot)
    → slice_get ps i ≡ Some p → count_by f (slice_set ps i q) + cond {A = ℕ} (f p) 1 0 ≡ count_by f ps + cond {A = ℕ} (f q) 1 0
count_set f ps i p q e =
    let s = sum_by-set (λ r. cond {A = ℕ} (f r) 1 0) ps i q p (slice_get_within ps i p e) in
    let g = ap (λ (r : Slot). cond {A = ℕ} (f r) 1 0) (get_or_from_slice_get ps i p p e) in
    omega arith

-- ---- the slots as one of them changes

abbrev pub is_free_of : ℕ → Option Slot → Bool
is_free_of g o = option_map_or (is_free g) o false

free_key : (g n : ℕ) (k : Option ℕ) (m : ℕ) → cond {A = ℕ} (is_free g (slot_at n k)) 1 0 ≡ m + 1 → (k ≡ None) × (n < g)
free_key g n (Some k) m e = absurd (omega arith)
free_key g n None m e = by_test (nat_lt n g) refl e
  where
    by_test : (b : Bool) → nat_lt n g ≡ b → cond {A = ℕ} b 1 0 ≡ m + 1 → (◌≡◌ {A = Option ℕ} None None) × (n < g)
    by_test true t e = (refl, ltb-true n g t)
    by_test false t e = absurd (omega arith)

free_found : (g : ℕ) (o : Option Slot) (m : ℕ) → cond {A = ℕ} (is_free_of g o) 1 0 ≡ m + 1 → (n : ℕ) × (o ≡ Some (slot_at n None)) × (n < g)
free_found g None m e = absurd (omega arith)
free_found g (Some p) m e =
    let u = free_key g p.generation p.key m e in
    (p.generation, ap (λ (k : Option ℕ). Some (slot_at p.generation k)) u.0, u.1)

each_changed : (ps qs : List Slot) (i : ℕ) (q : Slot) (P : Slot → Type 0)
    → ChangesAt ps qs i q → P q → ((j : ℕ) (p : Slot) → slice_get ps j ≡ Some p → P p) → (j : ℕ) (p : Slot) → slice_get qs j ≡ Some p → P p
each_changed ps qs i q P ch k h j p e = elim (cases_eq j i) [
  | inl same ↦
      let both : Some p ≡ Some q = sym e ∙ ap (slice_get qs) same ∙ ch.there in
      let is : p ≡ q = cc in
      subst P (sym is) k
  | inr ne ↦ h j p (sym (ch.others j ne) ∙ e)
]

pub holds : (b : Bool) → b ≡ true → cond {A = ℕ} b 1 0 ≡ 1
holds b e = ap (λ (c : Bool). cond {A = ℕ} c 1 0) e

pub fails : (b : Bool) → b ≡ false → cond {A = ℕ} b 1 0 ≡ 0
fails b e = ap (λ (c : Bool). cond {A = ℕ} c 1 0) e

module _ (ps : List Slot) (free : List ℕ) (room gone : ℕ) (l : Limits) (h : IsSound ps free room gone l) where
  -- room for as many free slots is enough
  pub sound_room : (larger : ℕ) → room ≤ larger → IsSound ps free larger gone l
  sound_room larger k = record {
    used = h.used;
    within = h.within;
    listed = h.listed;
    freed = h.freed;
    retired = h.retired;
    fits = let f = h.fits in omega arith;
    few = h.few;
    places = h.places;
    generations = h.generations;
  }

  -- what the free list has at its end is a free slot
  pub last_free : (rest : List ℕ) (i : ℕ)
      → free ≡ rest ++ i ∷ [] → (n : ℕ) × (slice_get ps i ≡ Some (record { generation = n; key = None })) × (n < l.generations)
  last_free rest i e =
      let f : ℕ → ℕ = λ x. cond {A = ℕ} (nat_eq i x) 1 0 in
      let a : sum_by f free ≡ sum_by f rest + 1 =
      ap (sum_by f) e ∙ sum_by_push f rest i ∙ ap (λ (n : ℕ). sum_by f rest + n) (holds (nat_eq i i) (eq-eqb i i refl)) in
      free_found l.generations (slice_get ps i) (sum_by f rest) (sym (h.listed i) ∙ a)

  -- a free slot holds a span
  pub sound_taken : (rest : List ℕ) (i n key : ℕ) → free ≡ rest ++ i ∷ [] → slice_get ps i ≡ Some (record { generation = n; key = None }) → n < l.generations
      → IsSound (slice_set ps i (record { generation = n; key = Some key })) rest room gone l
  sound_taken rest i n key e was below =
      let p = slot_at n None in
      let q = slot_at n (Some key) in
      let ch = changes_set ps i p q was in
      let isfree : is_free l.generations p ≡ true = lt-ltb n l.generations below in
      let size = length-set ps i q in
      record {
        used = each_changed ps (slice_set ps i q) i q (λ r. 1 ≤ issued_at r) ch (omega arith) h.used;
        within = each_changed ps (slice_set ps i q) i q (λ r. issued_at r ≤ max 1 l.generations) ch (omega arith) h.within;
        listed = λ j.
            let f : ℕ → ℕ = λ x. cond {A = ℕ} (nat_eq j x) 1 0 in
            let a : sum_by f free ≡ sum_by f rest + cond {A = ℕ} (nat_eq j i) 1 0 = ap (sum_by f) e ∙ sum_by_push f rest i in
            let b = h.listed j in
            elim (cases_eq j i) [
              | inl same ↦
                  let c = holds (nat_eq j i) (eq-eqb j i same) in
                  let d = holds (is_free_at l.generations ps j)
                  (ap (λ (k : ℕ). is_free_at l.generations ps k) same ∙ ap (λ (o : Option Slot). option_map_or (is_free l.generations) o false) was ∙ isfree) in
                  let g = fails (is_free_at l.generations (slice_set ps i q) j) (ap (λ (k : ℕ). is_free_at l.generations (slice_set ps i q) k) same
                  ∙ ap (λ (o : Option Slot). option_map_or (is_free l.generations) o false) ch.there) in
                  omega arith
              | inr ne ↦
                  let c = fails (nat_eq j i) (ne_eqb j i ne) in
                  let d = ap (λ (o : Option Slot). cond {A = ℕ} (option_map_or (is_free l.generations) o false) 1 0) (ch.others j ne) in
                  omega arith
            ];
        freed =
            let a = count_set (is_free l.generations) ps i p q was in
            let b = holds (is_free l.generations p) isfree in
            let c = ap length e ∙ length_push rest i in
            let d = h.freed in
            omega arith;
        retired =
            let a = count_set (is_retired l.generations) ps i p q was in
            let b = fails (is_retired l.generations p) (ap not isfree) in
            let d = h.retired in
            omega arith;
        fits = let d = h.fits in omega arith;
        few = let d = h.few in omega arith;
        places = h.places;
        generations = h.generations;
      }

  -- a slot is made, and holds a span
  pub sound_made : (larger key : ℕ)
      → length ps < l.places → length (ps ++ first_held key ∷ []) ≤ larger → IsSound (ps ++ first_held key ∷ []) free larger gone l
  sound_made larger key below room =
      let q = first_held key in
      let qs = ps ++ q ∷ [] in
      let ch = changes_push ps q in
      let size = length_push ps q in
      record {
        used = each_changed ps qs (length ps) q (λ r. 1 ≤ issued_at r) ch (omega arith) h.used;
        within = each_changed ps qs (length ps) q (λ r. issued_at r ≤ max 1 l.generations) ch (omega arith) h.within;
        listed = λ j.
            let b = h.listed j in
            elim (cases_eq j (length ps)) [
              | inl same ↦
                  let d = fails (is_free_at l.generations ps j) (ap (is_free_of l.generations) (slice_get_past ps j (omega arith))) in
                  let g = fails (is_free_at l.generations qs j) (ap (λ (k : ℕ). is_free_at l.generations qs k) same ∙ ap (is_free_of l.generations) ch.there) in
                  omega arith
              | inr ne ↦ let d = ap (λ (o : Option Slot). cond {A = ℕ} (is_free_of l.generations o) 1 0) (ch.others j ne) in omega arith
            ];
        freed = let a = sum_by_push (λ p. cond {A = ℕ} (is_free l.generations p) 1 0) ps q in let d = h.freed in omega arith;
        retired = let a = sum_by_push (λ p. cond {A = ℕ} (is_retired l.generations p) 1 0) ps q in let d = h.retired in omega arith;
        fits = room;
        few = omega arith;
        places = h.places;
        generations = h.generations;
      }

  -- where a slot holds a span, the others leave room for it among the free ones, and not all are retired
  pub one_held : (i n key : ℕ) → slice_get ps i ≡ Some (slot_at n (Some key)) → (length free < room) × (gone < l.places)
  one_held i n key was =
      let a = all_slots l.generations ps in
      let b = count_set is_held ps i (slot_at n (Some key)) (slot_at n None) was in
      let c = h.freed in
      let d = h.retired in
      let e = h.fits in
      let f = h.few in
      (omega arith, omega arith)

  -- a slot is given back, and may hold another span
  pub sound_freed : (more : List ℕ) (i n key : ℕ) → more ≡ free ++ i ∷ [] → slice_get ps i ≡ Some (slot_at n (Some key)) → n + 1 < l.generations
      → IsSound (slice_set ps i (slot_at (n + 1) None)) more room gone l
  sound_freed more i n key e was below =
      let p = slot_at n (Some key) in
      let q = slot_at (n + 1) None in
      let ch = changes_set ps i p q was in
      let isfree : is_free l.generations q ≡ true = lt-ltb (n + 1) l.generations below in
      let size = length-set ps i q in
      record {
        used = each_changed ps (slice_set ps i q) i q (λ r. 1 ≤ issued_at r) ch (omega arith) h.used;
        within = each_changed ps (slice_set ps i q) i q (λ r. issued_at r ≤ max 1 l.generations) ch (omega arith) h.within;
        listed = λ j.
            let f : ℕ → ℕ = λ x. cond {A = ℕ} (nat_eq j x) 1 0 in
            let a : sum_by f more ≡ sum_by f free + cond {A = ℕ} (nat_eq j i) 1 0 = ap (sum_by f) e ∙ sum_by_push f free i in
            let b = h.listed j in
            elim (cases_eq j i) [
              | inl same ↦
                  let c = holds (nat_eq j i) (eq-eqb j i same) in
                  let d = fails (is_free_at l.generations ps j) (ap (λ (k : ℕ). is_free_at l.generations ps k) same ∙ ap (is_free_of l.generations) was) in
                  let g = holds (is_free_at l.generations (slice_set ps i q) j)
                  (ap (λ (k : ℕ). is_free_at l.generations (slice_set ps i q) k) same ∙ ap (is_free_of l.generations) ch.there ∙ isfree) in
                  omega arith
              | inr ne ↦
                  let c = fails (nat_eq j i) (ne_eqb j i ne) in
                  let d = ap (λ (o : Option Slot). cond {A = ℕ} (is_free_of l.generations o) 1 0) (ch.others j ne) in
                  omega arith
            ];
        freed =
            let a = count_set (is_free l.generations) ps i p q was in
            let b = holds (is_free l.generations q) isfree in
            let c = ap length e ∙ length_push free i in
            let d = h.freed in
            omega arith;
        retired =
            let a = count_set (is_retired l.generations) ps i p q was in
            let b = fails (is_retired l.generations q) (ap not isfree) in
            let d = h.retired in
            omega arith;
        fits = let d = h.fits in omega arith;
        few = let d = h.few in omega arith;
        places = h.places;
        generations = h.generations;
      }

  -- a slot is given back, and held its last span
  pub sound_retired : (i n key : ℕ)
      → slice_get ps i ≡ Some (slot_at n (Some key)) → l.generations ≤ n + 1 → IsSound (slice_set ps i (slot_at (n + 1) None)) free room (gone + 1) l
  sound_retired i n key was over =
      let p = slot_at n (Some key) in
      let q = slot_at (n + 1) None in
      let ch = changes_set ps i p q was in
      let notfree : is_free l.generations q ≡ false = le-ltb (n + 1) l.generations over in
      let size = length-set ps i q in
      let had = h.within i p was in
      record {
        used = each_changed ps (slice_set ps i q) i q (λ r. 1 ≤ issued_at r) ch (omega arith) h.used;
        within = each_changed ps (slice_set ps i q) i q (λ r. issued_at r ≤ max 1 l.generations) ch (omega arith) h.within;
        listed = λ j.
            let b = h.listed j in
            elim (cases_eq j i) [
              | inl same ↦
                  let d = fails (is_free_at l.generations ps j) (ap (λ (k : ℕ). is_free_at l.generations ps k) same ∙ ap (is_free_of l.generations) was) in
                  let g = fails (is_free_at l.generations (slice_set ps i q) j)
                  (ap (λ (k : ℕ). is_free_at l.generations (slice_set ps i q) k) same ∙ ap (is_free_of l.generations) ch.there ∙ notfree) in
                  omega arith
              | inr ne ↦ let d = ap (λ (o : Option Slot). cond {A = ℕ} (is_free_of l.generations o) 1 0) (ch.others j ne) in omega arith
            ];
        freed =
            let a = count_set (is_free l.generations) ps i p q was in
            let b = fails (is_free l.generations q) notfree in
            let d = h.freed in
            omega arith;
        retired =
            let a = count_set (is_retired l.generations) ps i p q was in
            let b = holds (is_retired l.generations q) (ap not notfree) in
            let d = h.retired in
            omega arith;
        fits = let d = h.fits in omega arith;
        few = let d = h.few in omega arith;
        places = h.places;
        generations = h.generations;
      }
