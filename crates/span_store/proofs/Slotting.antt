-- Slots, seen as the map from the numbers that they hold to keys, and as the set of the numbers issued.
use Rattle.std.proofs.Common.{◌≡◌, ℕ, ◌+◌, ◌/◌, ◌%◌, ◌<◌, ◌≤◌, ◌⊎◌, zero, suc, Bool, true, false, cond, ◌||◌, nat_eq, nat_lt, List, [], ◌∷◌, ◌++◌, length}
use Rattle.std.proofs.Common.{slice_get, Option, None, Some, is_some, sum_by, count_by, refl, sym, ap, ◌∙◌, inl, inr, arith}
use Rattle.std.proofs.lemmas.Bool.{cases_eq, eq-eqb, ne_eqb, lt-ltb, le-ltb, cases_lt}
use Rattle.std.proofs.lemmas.List.Folds.{list_any-append}
use Rattle.std.proofs.lemmas.List.Sums.{sum_by-cons}
use Rattle.std.specs.Cmp.{nat_cmp_total}
use Rattle.std.specs.FinMap.{FinMap, find, from_entries, get, insert, remove, len, get-from_entries, get-insert, get-remove, len-empty, len-insert, same_map}
use Rattle.std.specs.FinMap.{nat_cmp-IsAntisymmetric}
use Rattle.std.specs.FinSet.{FinSet, contains, from_list, insert as add, len as set_len, contains-from_list, contains-insert, len-empty as set_empty}
use Rattle.std.specs.FinSet.{len-insert as set_insert, same_set}
use Rattle.std.specs.List.{list_any}
use Rattle.std.specs.Ordering.{nat_cmp, eq_by_cmp}
use Rattle.span_store.specs.private.Slot.{number_at, key_of_slot, issued_at, with_key, held_from, numbers_at, issued_from, is_held}
use Rattle.span_store.specs.declared.slot.Slot.{Slot}
use Rattle.span_store.proofs.Chains.{same_test, other_test}

-- ---- numbers

pub same_slot : (i j g h : ℕ) → i < 4294967296 → j < 4294967296 → number_at i g ≡ number_at j h → i ≡ j
same_slot i j g h l m e = omega arith

pub same_generation : (i j g h : ℕ) → i < 4294967296 → j < 4294967296 → number_at i g ≡ number_at j h → g ≡ h
same_generation i j g h l m e = omega arith

-- each number but 0 is one of a slot
pub number_cases : (x : ℕ) → (x ≡ 0) ⊎ ((i : ℕ) × (g : ℕ) × (i < 4294967296) × (x ≡ number_at i g))
number_cases zero = inl refl
number_cases (suc n) = inr (n % 4294967296, n / 4294967296, omega arith, omega arith)

-- ---- the map
-- the key that a slot has in a generation

abbrev pub key_in : Option Slot → ℕ → Option ℕ
key_in None g = None
key_in (Some p) g = key_of_slot p g

abbrev pub keys_of : List Slot → FinMap nat_cmp ℕ
keys_of ps = from_entries (held_from 0 ps)

find_beside : (x y : ℕ) (o : Option ℕ) (es : List (ℕ × ℕ)) → (x ≡ y → ⊥) → find nat_cmp x (with_key y o es) ≡ find nat_cmp x es
find_beside x y None es n = refl
find_beside x y (Some k) es n = ap (λ (b : Bool). cond b (Some k) (find nat_cmp x es)) (other_test x y n)

find_here : (y : ℕ) (o : Option ℕ) (es : List (ℕ × ℕ)) → find nat_cmp y es ≡ None → find nat_cmp y (with_key y o es) ≡ o
find_here y None es e = e
find_here y (Some k) es e = ap (λ (b : Bool). cond b (Some k) (find nat_cmp y es)) (same_test y y refl)

held_below : (ps : List Slot) (i k g : ℕ) → k < i → i + length ps ≤ 4294967296 → find nat_cmp (number_at k g) (held_from i ps) ≡ None
held_below [] i k g l m = refl
held_below (p ∷ ps) i k g l m =
    find_beside (number_at k g)
    (number_at i p.generation) p.key (held_from (suc i) ps) (λ e. let s = same_slot k i g p.generation (omega arith) (omega arith) e in absurd (omega arith))
    ∙ held_below ps (suc i) k g (omega arith) (omega arith)

held_zero : (ps : List Slot) (i : ℕ) → find nat_cmp 0 (held_from i ps) ≡ None
held_zero [] i = refl
held_zero (p ∷ ps) i = find_beside 0 (number_at i p.generation) p.key (held_from (suc i) ps) (λ e. absurd (omega arith)) ∙ held_zero ps (suc i)

find_held : (ps : List Slot) (i j g : ℕ)
    → i + length ps ≤ 4294967296 → i + j < 4294967296 → find nat_cmp (number_at (i + j) g) (held_from i ps) ≡ key_in (slice_get ps j) g
find_held [] i j g l m = refl
find_held (p ∷ ps) i zero g l m = elim (cases_eq p.generation g) [
  | inl same ↦
      ap (λ (x : ℕ). find nat_cmp x (held_from i (p ∷ ps))) (let same' : p.generation ≡ g = same in omega arith)
      ∙ find_here (number_at i p.generation) p.key (held_from (suc i) ps) (held_below ps (suc i) i p.generation (omega arith) (omega arith))
      ∙ sym (ap (λ (b : Bool). cond b p.key None) (eq-eqb p.generation g same))
  | inr ne ↦
      find_beside (number_at (i + 0) g)
      (number_at i p.generation) p.key (held_from (suc i) ps) (λ e. ne (sym (same_generation (i + 0) i g p.generation m (omega arith) e)))
      ∙ ap (λ (k : ℕ). find nat_cmp (number_at k g) (held_from (suc i) ps)) (let z : i + 0 ≡ i = omega arith in z)
      ∙ held_below ps (suc i) i g (omega arith) (omega arith)
      ∙ sym (ap (λ (b : Bool). cond b p.key None) (ne_eqb p.generation g ne))
]
find_held (p ∷ ps) i (suc j) g l m =
    let next : i + suc j ≡ suc i + j = omega arith in
    find_beside (number_at (i + suc j) g)
    (number_at i p.generation) p.key (held_from (suc i) ps) (λ e. let s = same_slot (i + suc j) i g p.generation m (omega arith) e in absurd (omega arith))
    ∙ ap (λ (k : ℕ). find nat_cmp (number_at k g) (held_from (suc i) ps)) next
    ∙ find_held ps (suc i) j g (omega arith) (omega arith)

-- what the map has at a number is the key of its slot in its generation
pub get_held : (ps : List Slot) (i g : ℕ) → length ps ≤ 4294967295 → i < 4294967296 → get (keys_of ps) (number_at i g) ≡ key_in (slice_get ps i) g
get_held ps i g l m =
    get-from_entries nat_cmp_total (held_from 0 ps) (number_at i g)
    ∙ ap (λ (k : ℕ). find nat_cmp (number_at k g) (held_from 0 ps)) (let z : i ≡ 0 + i = omega arith in z)
    ∙ find_held ps 0 i g (omega arith) (omega arith)

pub get_zero : (ps : List Slot) → get (keys_of ps) 0 ≡ None
get_zero ps = get-from_entries nat_cmp_total (held_from 0 ps) 0 ∙ held_zero ps 0

-- a map that has these keys is theirs
keys_by : (m : FinMap nat_cmp ℕ) (ps : List Slot)
    → length ps ≤ 4294967295 → get m 0 ≡ None → ((i g : ℕ) → i < 4294967296 → get m (number_at i g) ≡ key_in (slice_get ps i) g) → m ≡ keys_of ps
keys_by m ps l z each = same_map nat_cmp_total nat_cmp-IsAntisymmetric m (keys_of ps) (λ x. elim (number_cases x) [
  | inl e ↦ ap (get m) e ∙ z ∙ sym (ap (get (keys_of ps)) e ∙ get_zero ps)
  | inr u ↦ ap (get m) u.3 ∙ each u.0 u.1 u.2 ∙ sym (ap (get (keys_of ps)) u.3 ∙ get_held ps u.0 u.1 l u.2)
])

-- one slot is changed, or a new one made
pub record ChangesAt (ps qs : List Slot) (i : ℕ) (q : Slot) : Type 0 where
  pub there : slice_get qs i ≡ Some q
  pub others : (j : ℕ) → (j ≡ i → ⊥) → slice_get qs j ≡ slice_get ps j

-- a slot that had no key gets one
pub keys_taken : (ps qs : List Slot) (i g key : ℕ)
    → length ps ≤ 4294967295 → length qs ≤ 4294967295 → i < 4294967296 → ((h : ℕ) → key_in (slice_get ps i) h ≡ None)
    → ChangesAt ps qs i (record { generation = g; key = Some key }) → keys_of qs ≡ insert (keys_of ps) (number_at i g) key
keys_taken ps qs i g key l m n none ch = sym (keys_by (insert (keys_of ps) (number_at i g) key) qs m
    (get-insert nat_cmp_total (keys_of ps) (number_at i g) key 0
    ∙ ap (λ (b : Bool). cond b (Some key) (get (keys_of ps) 0)) (other_test 0 (number_at i g) (λ e. absurd (omega arith))) ∙ get_zero ps)
    (λ j h below. get-insert nat_cmp_total (keys_of ps) (number_at i g) key (number_at j h) ∙ by_slot j h below (cases_eq j i) (cases_eq g h)))
  where
    by_slot : (j h : ℕ) → j < 4294967296 → (j ≡ i) ⊎ (j ≡ i → ⊥) → (g ≡ h) ⊎ (g ≡ h → ⊥)
        → cond (eq_by_cmp nat_cmp (number_at j h) (number_at i g)) (Some key) (get (keys_of ps) (number_at j h)) ≡ key_in (slice_get qs j) h
    by_slot j h below (inl e) (inl s) =
        ap (λ (b : Bool). cond b (Some key) (get (keys_of ps) (number_at j h))) (same_test (number_at j h) (number_at i g) (omega arith))
        ∙ sym (ap (λ (k : ℕ). key_in (slice_get qs k) h) e
        ∙ ap (λ (o : Option Slot). key_in o h) ch.there ∙ ap (λ (b : Bool). cond b (Some key) None) (eq-eqb g h s))
    by_slot j h below (inl e) (inr ne) =
        ap (λ (b : Bool). cond b (Some key) (get (keys_of ps) (number_at j h)))
        (other_test (number_at j h) (number_at i g) (λ u. ne (sym (same_generation j i h g below n u))))
        ∙ get_held ps j h l below ∙ ap (λ (k : ℕ). key_in (slice_get ps k) h) e ∙ none h
        ∙ sym (ap (λ (k : ℕ). key_in (slice_get qs k) h) e
        ∙ ap (λ (o : Option Slot). key_in o h) ch.there ∙ ap (λ (b : Bool). cond b (Some key) None) (ne_eqb g h ne))
    by_slot j h below (inr ne) s =
        ap (λ (b : Bool). cond b (Some key) (get (keys_of ps) (number_at j h)))
        (other_test (number_at j h) (number_at i g) (λ u. ne (same_slot j i h g below n u)))
        ∙ get_held ps j h l below ∙ ap (λ (o : Option Slot). key_in o h) (sym (ch.others j ne))

-- a slot loses its key
pub keys_given_back : (ps qs : List Slot) (i g next : ℕ) (key : Option ℕ)
    → length ps ≤ 4294967295 → length qs ≤ 4294967295 → i < 4294967296 → slice_get ps i ≡ Some (record { generation = g; key = key })
    → ChangesAt ps qs i (record { generation = next; key = None }) → keys_of qs ≡ remove (keys_of ps) (number_at i g)
keys_given_back ps qs i g next key l m n was ch = sym (keys_by (remove (keys_of ps) (number_at i g)) qs m
    (get-remove nat_cmp_total (keys_of ps) (number_at i g) 0
    ∙ ap (λ (b : Bool). cond b None (get (keys_of ps) 0)) (other_test 0 (number_at i g) (λ e. absurd (omega arith))) ∙ get_zero ps)
    (λ j h below. get-remove nat_cmp_total (keys_of ps) (number_at i g) (number_at j h) ∙ by_slot j h below (cases_eq j i) (cases_eq g h)))
  where
    no_key : (b : Bool) → None ≡ cond {A = Option ℕ} b None None
    no_key true = refl
    no_key false = refl

    by_slot : (j h : ℕ) → j < 4294967296 → (j ≡ i) ⊎ (j ≡ i → ⊥)
        → (g ≡ h) ⊎ (g ≡ h → ⊥) → cond (eq_by_cmp nat_cmp (number_at j h) (number_at i g)) None (get (keys_of ps) (number_at j h)) ≡ key_in (slice_get qs j) h
    by_slot j h below (inl e) (inl s) =
        ap (λ (b : Bool). cond b None (get (keys_of ps) (number_at j h))) (same_test (number_at j h) (number_at i g) (omega arith))
        ∙ no_key (nat_eq next h) ∙ sym (ap (λ (k : ℕ). key_in (slice_get qs k) h) e ∙ ap (λ (o : Option Slot). key_in o h) ch.there)
    by_slot j h below (inl e) (inr ne) =
        ap (λ (b : Bool). cond b None (get (keys_of ps) (number_at j h)))
        (other_test (number_at j h) (number_at i g) (λ u. ne (sym (same_generation j i h g below n u))))
        ∙ get_held ps j h l below
        ∙ ap (λ (k : ℕ). key_in (slice_get ps k) h) e ∙ ap (λ (o : Option Slot). key_in o h) was ∙ ap (λ (b : Bool). cond b key None) (ne_eqb g h ne)
        ∙ no_key (nat_eq next h) ∙ sym (ap (λ (k : ℕ). key_in (slice_get qs k) h) e ∙ ap (λ (o : Option Slot). key_in o h) ch.there)
    by_slot j h below (inr ne) s =
        ap (λ (b : Bool). cond b None (get (keys_of ps) (number_at j h))) (other_test (number_at j h) (number_at i g) (λ u. ne (same_slot j i h g below n u)))
        ∙ get_held ps j h l below ∙ ap (λ (o : Option Slot). key_in o h) (sym (ch.others j ne))

len_with : (x : ℕ) (o : Option ℕ) (es : List (ℕ × ℕ))
    → find nat_cmp x es ≡ None → len (from_entries {R = nat_cmp} (with_key x o es)) ≡ cond {A = ℕ} (is_some o) 1 0 + len (from_entries {R = nat_cmp} es)
len_with x None es none = omega arith
len_with x (Some k) es none =
    let c = len-insert nat_cmp_total (from_entries es) x k
    ∙ ap (λ (o : Option ℕ). cond (is_some o) (len (from_entries {R = nat_cmp} es)) (len (from_entries {R = nat_cmp} es) + 1))
    (get-from_entries nat_cmp_total es x ∙ none) in
    omega arith

-- as many keys as slots that hold a span
pub len_held : (ps : List Slot) (i : ℕ) → i + length ps ≤ 4294967295 → len (from_entries {R = nat_cmp} (held_from i ps)) ≡ count_by is_held ps
len_held [] i l = len-empty nat_cmp ℕ
len_held (p ∷ ps) i l =
    len_with (number_at i p.generation) p.key (held_from (suc i) ps) (held_below ps (suc i) i p.generation (omega arith) (omega arith))
    ∙ ap (λ (n : ℕ). cond (is_some p.key) 1 0 + n) (len_held ps (suc i) (omega arith))
    ∙ sym (sum_by-cons (λ q. cond {A = ℕ} (is_held q) 1 0) p ps)

-- ---- the set

abbrev pub issued_in : Option Slot → ℕ
issued_in None = 0
issued_in (Some p) = issued_at p

abbrev pub issued_of : List Slot → FinSet nat_cmp
issued_of ps = from_list (issued_from 0 ps)

any_other : (i j g n : ℕ) → i < 4294967296 → j < 4294967296 → (j ≡ i → ⊥) → list_any (eq_by_cmp nat_cmp (number_at j g)) (numbers_at i n) ≡ false
any_other i j g zero l m ne = refl
any_other i j g (suc n) l m ne =
    ap (λ (b : Bool). b || list_any (eq_by_cmp nat_cmp (number_at j g)) (numbers_at i n))
    (other_test (number_at j g) (number_at i n) (λ e. ne (same_slot j i g n m l e)))
    ∙ any_other i j g n l m ne

below_next : (g n : ℕ) → (g ≡ n → ⊥) → nat_lt g n ≡ nat_lt g (suc n)
below_next g n ne = elim (cases_lt g n) [
  | inl k ↦ lt-ltb g n k ∙ sym (lt-ltb g (suc n) (omega arith))
  | inr k ↦ le-ltb g n k ∙ sym (le-ltb g (suc n) (omega arith))
]

any_own : (i g n : ℕ) → i < 4294967296 → list_any (eq_by_cmp nat_cmp (number_at i g)) (numbers_at i n) ≡ nat_lt g n
any_own i g zero l = sym (le-ltb g 0 (omega arith))
any_own i g (suc n) l = elim (cases_eq g n) [
  | inl e ↦
      ap (λ (b : Bool). b || list_any (eq_by_cmp nat_cmp (number_at i g)) (numbers_at i n)) (same_test (number_at i g) (number_at i n) (omega arith))
      ∙ sym (lt-ltb g (suc n) (omega arith))
  | inr ne ↦
      ap (λ (b : Bool). b || list_any (eq_by_cmp nat_cmp (number_at i g)) (numbers_at i n))
      (other_test (number_at i g) (number_at i n) (λ e. ne (same_generation i i g n l l e)))
      ∙ any_own i g n l ∙ below_next g n ne
]

issued_below : (ps : List Slot) (i k g : ℕ) → k < i → i + length ps ≤ 4294967296 → list_any (eq_by_cmp nat_cmp (number_at k g)) (issued_from i ps) ≡ false
issued_below [] i k g l m = refl
issued_below (p ∷ ps) i k g l m =
    list_any-append (eq_by_cmp nat_cmp (number_at k g)) (numbers_at i (issued_at p)) (issued_from (suc i) ps)
    ∙ ap (λ (b : Bool). b || list_any (eq_by_cmp nat_cmp (number_at k g)) (issued_from (suc i) ps))
    (any_other i k g (issued_at p) (omega arith) (omega arith) (λ e. absurd (omega arith)))
    ∙ issued_below ps (suc i) k g (omega arith) (omega arith)

or_false : (b : Bool) → (b || false) ≡ b
or_false true = refl
or_false false = refl

any_issued : (ps : List Slot) (i j g : ℕ) → i + length ps ≤ 4294967296
    → i + j < 4294967296 → list_any (eq_by_cmp nat_cmp (number_at (i + j) g)) (issued_from i ps) ≡ nat_lt g (issued_in (slice_get ps j))
any_issued [] i j g l m = sym (le-ltb g 0 (omega arith))
any_issued (p ∷ ps) i zero g l m =
    ap (λ (k : ℕ). list_any (eq_by_cmp nat_cmp (number_at k g)) (issued_from i (p ∷ ps))) (let z : i + 0 ≡ i = omega arith in z)
    ∙ list_any-append (eq_by_cmp nat_cmp (number_at i g)) (numbers_at i (issued_at p)) (issued_from (suc i) ps)
    ∙ ap (λ (b : Bool). list_any (eq_by_cmp nat_cmp (number_at i g)) (numbers_at i (issued_at p)) || b)
    (issued_below ps (suc i) i g (omega arith) (omega arith))
    ∙ or_false (list_any (eq_by_cmp nat_cmp (number_at i g)) (numbers_at i (issued_at p)))
    ∙ any_own i g (issued_at p) (omega arith)
any_issued (p ∷ ps) i (suc j) g l m =
    list_any-append (eq_by_cmp nat_cmp (number_at (i + suc j) g)) (numbers_at i (issued_at p)) (issued_from (suc i) ps)
    ∙ ap (λ (b : Bool). b || list_any (eq_by_cmp nat_cmp (number_at (i + suc j) g)) (issued_from (suc i) ps))
    (any_other i (i + suc j) g (issued_at p) (omega arith) m (λ e. absurd (omega arith)))
    ∙ ap (λ (k : ℕ). list_any (eq_by_cmp nat_cmp (number_at k g)) (issued_from (suc i) ps)) (let next : i + suc j ≡ suc i + j = omega arith in next)
    ∙ any_issued ps (suc i) j g (omega arith) (omega arith)

zero_issued : (ps : List Slot) (i : ℕ) → list_any (eq_by_cmp nat_cmp 0) (issued_from i ps) ≡ false
zero_issued [] i = refl
zero_issued (p ∷ ps) i =
    list_any-append (eq_by_cmp nat_cmp 0) (numbers_at i (issued_at p)) (issued_from (suc i) ps)
    ∙ ap (λ (b : Bool). b || list_any (eq_by_cmp nat_cmp 0) (issued_from (suc i) ps)) (none (issued_at p))
    ∙ zero_issued ps (suc i)
  where
    none : (n : ℕ) → list_any (eq_by_cmp nat_cmp 0) (numbers_at i n) ≡ false
    none zero = refl
    none (suc n) = ap (λ (b : Bool). b || list_any (eq_by_cmp nat_cmp 0) (numbers_at i n)) (other_test 0 (number_at i n) (λ e. absurd (omega arith))) ∙ none n

-- the numbers issued at a slot are those of its generations so far
pub was_issued : (ps : List Slot) (i g : ℕ)
    → length ps ≤ 4294967295 → i < 4294967296 → contains (issued_of ps) (number_at i g) ≡ nat_lt g (issued_in (slice_get ps i))
was_issued ps i g l m =
    contains-from_list nat_cmp_total (issued_from 0 ps) (number_at i g)
    ∙ ap (λ (k : ℕ). list_any (eq_by_cmp nat_cmp (number_at k g)) (issued_from 0 ps)) (let z : i ≡ 0 + i = omega arith in z)
    ∙ any_issued ps 0 i g (omega arith) (omega arith)

zero_unissued : (ps : List Slot) → contains (issued_of ps) 0 ≡ false
zero_unissued ps = contains-from_list nat_cmp_total (issued_from 0 ps) 0 ∙ zero_issued ps 0

issued_by : (s : FinSet nat_cmp) (ps : List Slot) → length ps ≤ 4294967295
    → contains s 0 ≡ false → ((i g : ℕ) → i < 4294967296 → contains s (number_at i g) ≡ nat_lt g (issued_in (slice_get ps i))) → s ≡ issued_of ps
issued_by s ps l z each = same_set nat_cmp_total nat_cmp-IsAntisymmetric s (issued_of ps) (λ x. elim (number_cases x) [
  | inl e ↦ ap (contains s) e ∙ z ∙ sym (ap (contains (issued_of ps)) e ∙ zero_unissued ps)
  | inr u ↦ ap (contains s) u.3 ∙ each u.0 u.1 u.2 ∙ sym (ap (contains (issued_of ps)) u.3 ∙ was_issued ps u.0 u.1 l u.2)
])

-- a slot at which as many numbers were issued leaves the set as it is
pub issued_same : (ps qs : List Slot) (i : ℕ) (q : Slot)
    → length ps ≤ 4294967295 → length qs ≤ 4294967295 → issued_at q ≡ issued_in (slice_get ps i) → ChangesAt ps qs i q → issued_of qs ≡ issued_of ps
issued_same ps qs i q l m n ch =
    sym (issued_by (issued_of ps) qs m (zero_unissued ps) (λ j g below. was_issued ps j g l below ∙ ap (nat_lt g) (by_slot j (cases_eq j i))))
  where
    by_slot : (j : ℕ) → (j ≡ i) ⊎ (j ≡ i → ⊥) → issued_in (slice_get ps j) ≡ issued_in (slice_get qs j)
    by_slot j (inl e) = ap (λ (k : ℕ). issued_in (slice_get ps k)) e ∙ sym n ∙ sym (ap (λ (k : ℕ). issued_in (slice_get qs k)) e ∙ ap issued_in ch.there)
    by_slot j (inr ne) = ap issued_in (sym (ch.others j ne))

-- a slot at which one number more was issued
pub issued_taken : (ps qs : List Slot) (i g : ℕ) (q : Slot)
    → length ps ≤ 4294967295 → length qs ≤ 4294967295 → i < 4294967296 → issued_in (slice_get ps i) ≡ g → issued_at q ≡ suc g
    → ChangesAt ps qs i q → issued_of qs ≡ add (issued_of ps) (number_at i g)
issued_taken ps qs i g q l m n was is ch = sym (issued_by (add (issued_of ps) (number_at i g)) qs m
    (contains-insert nat_cmp_total (issued_of ps) (number_at i g) 0
    ∙ ap (λ (b : Bool). b || contains (issued_of ps) 0) (other_test 0 (number_at i g) (λ e. absurd (omega arith))) ∙ zero_unissued ps)
    (λ j h below. contains-insert nat_cmp_total (issued_of ps) (number_at i g) (number_at j h) ∙ by_slot j h below (cases_eq j i) (cases_eq h g)))
  where
    now : (j h : ℕ) → j ≡ i → nat_lt h (issued_in (slice_get qs j)) ≡ nat_lt h (suc g)
    now j h e = ap (nat_lt h) (ap (λ (k : ℕ). issued_in (slice_get qs k)) e ∙ ap issued_in ch.there ∙ is)

    by_slot : (j h : ℕ) → j < 4294967296 → (j ≡ i) ⊎ (j ≡ i → ⊥) → (h ≡ g) ⊎ (h ≡ g → ⊥)
        → (eq_by_cmp nat_cmp (number_at j h) (number_at i g) || contains (issued_of ps) (number_at j h)) ≡ nat_lt h (issued_in (slice_get qs j))
    by_slot j h below (inl e) (inl s) =
        ap (λ (b : Bool). b || contains (issued_of ps) (number_at j h)) (same_test (number_at j h) (number_at i g) (omega arith))
        ∙ sym (now j h e ∙ lt-ltb h (suc g) (omega arith))
    by_slot j h below (inl e) (inr ne) =
        ap (λ (b : Bool). b || contains (issued_of ps) (number_at j h))
        (other_test (number_at j h) (number_at i g) (λ u. ne (same_generation j i h g below n u)))
        ∙ was_issued ps j h l below ∙ ap (nat_lt h) (ap (λ (k : ℕ). issued_in (slice_get ps k)) e ∙ was) ∙ below_next h g ne ∙ sym (now j h e)
    by_slot j h below (inr ne) s =
        ap (λ (b : Bool). b || contains (issued_of ps) (number_at j h)) (other_test (number_at j h) (number_at i g) (λ u. ne (same_slot j i h g below n u)))
        ∙ was_issued ps j h l below ∙ ap (λ (o : Option Slot). nat_lt h (issued_in o)) (sym (ch.others j ne))

-- as many numbers as were issued at each slot
len_numbers : (i n : ℕ) (xs : List ℕ) → i < 4294967296 → ((g : ℕ) → list_any (eq_by_cmp nat_cmp (number_at i g)) xs ≡ false)
    → set_len (from_list {R = nat_cmp} (numbers_at i n ++ xs)) ≡ n + set_len (from_list {R = nat_cmp} xs)
len_numbers i zero xs l none = omega arith
len_numbers i (suc n) xs l none =
    let rest = numbers_at i n ++ xs in
    let new : contains (from_list {R = nat_cmp} rest) (number_at i n) ≡ false =
    contains-from_list nat_cmp_total rest (number_at i n) ∙ list_any-append (eq_by_cmp nat_cmp (number_at i n)) (numbers_at i n) xs
    ∙ ap (λ (b : Bool). b || list_any (eq_by_cmp nat_cmp (number_at i n)) xs) (any_own i n n l ∙ le-ltb n n (omega arith)) ∙ none n in
    let c = set_insert nat_cmp_total (from_list rest) (number_at i n)
    ∙ ap (λ (b : Bool). cond b (set_len (from_list {R = nat_cmp} rest)) (set_len (from_list {R = nat_cmp} rest) + 1)) new in
    let k = len_numbers i n xs l none in
    omega arith

pub len_issued : (ps : List Slot) (i : ℕ) → i + length ps ≤ 4294967295 → set_len (from_list {R = nat_cmp} (issued_from i ps)) ≡ sum_by issued_at ps
len_issued [] i l = set_empty nat_cmp
len_issued (p ∷ ps) i l =
    len_numbers i (issued_at p) (issued_from (suc i) ps) (omega arith) (λ g. issued_below ps (suc i) i g (omega arith) (omega arith))
    ∙ ap (λ (n : ℕ). issued_at p + n) (len_issued ps (suc i) (omega arith)) ∙ sym (sum_by-cons issued_at p ps)
