-- How many slots hold a span, are free and are retired, and what the slots keep true as one of them changes.
use Rattle.std.proofs.Common.{◌≡◌, ℕ, ◌+◌, ◌*◌, ◌<◌, ◌≤◌, ◌⊎◌, max, suc, Bool, true, false, cond, not, ◌&&◌, MatchBool, nat_eq, nat_lt, List, [], ◌∷◌, length}
use Rattle.std.proofs.Common.{slice_get, Option, None, Some, IsSome, is_some, sum_by, count_by, refl, sym, ap, subst, ◌∙◌, inl, inr, arith, mul-le-mul, add-mul}
use Rattle.std.proofs.Common.{one-mul}
use Rattle.std.proofs.lemmas.Bool.{cases_eq, cases_lt, eq-eqb, ne_eqb, lt-ltb, ltb-false}
use Rattle.std.proofs.lemmas.List.Sums.{sum_by-cons}
use Rattle.std.proofs.lemmas.Option.{slice_get_past}
use Rattle.std.specs.FinMap.{get, len}
use Rattle.std.specs.FinSet.{contains, len as set_len}
use Rattle.span_store.specs.private.Slot.{SlotState, HasSlot, HasNoSlot, number_at, issued_at, is_held, is_free, is_retired, IsSound}
use Rattle.span_store.specs.declared.limits.Limits.{Limits}
use Rattle.span_store.specs.declared.slot.Slot.{Slot}
use Rattle.span_store.proofs.Slotting.{issued_in, issued_of, key_in, keys_of, len_held, len_issued, number_cases, get_held, get_zero, was_issued}

-- ---- counts

one_of_three : (a b : Bool) → cond {A = ℕ} a 1 0 + cond {A = ℕ} (not a && b) 1 0 + cond {A = ℕ} (not a && not b) 1 0 ≡ 1
one_of_three true b = refl
one_of_three false true = refl
one_of_three false false = refl

-- each slot holds a span, or is free, or is retired
pub all_slots : (g : ℕ) (ps : List Slot) → count_by is_held ps + count_by (is_free g) ps + count_by (is_retired g) ps ≡ length ps
all_slots g [] = refl
all_slots g (p ∷ ps) =
    let a = sum_by-cons (λ q. cond {A = ℕ} (is_held q) 1 0) p ps in
    let b = sum_by-cons (λ q. cond {A = ℕ} (is_free g q) 1 0) p ps in
    let c = sum_by-cons (λ q. cond {A = ℕ} (is_retired g q) 1 0) p ps in
    let d = one_of_three (is_some p.key) (nat_lt p.generation g) in
    let r = all_slots g ps in
    omega arith

retired_at : (g n : ℕ) (k : Option ℕ) → cond {A = ℕ} (not (is_some k) && not (nat_lt n g)) 1 0 * g ≤ n + cond {A = ℕ} (is_some k) 1 0
retired_at g n (Some k) = omega arith
retired_at g n None = by_test (nat_lt n g) refl
  where
    by_test : (b : Bool) → nat_lt n g ≡ b → cond {A = ℕ} (not b) 1 0 * g ≤ n + 0
    by_test true e = omega arith
    by_test false e = omega (arith, ltb-false n g e)

-- a retired slot held all its spans
retired_issued : (g : ℕ) (ps : List Slot) → count_by (is_retired g) ps * g ≤ sum_by issued_at ps
retired_issued g [] = omega arith
retired_issued g (p ∷ ps) =
    let one = cond {A = ℕ} (is_retired g p) 1 0 in
    let a : count_by (is_retired g) (p ∷ ps) * g ≡ one * g + count_by (is_retired g) ps * g =
    ap (λ (n : ℕ). n * g) (sum_by-cons (λ q. cond {A = ℕ} (is_retired g q) 1 0) p ps) ∙ add-mul one (count_by (is_retired g) ps) g in
    let b = sum_by-cons issued_at p ps in
    let c = retired_at g p.generation p.key in
    let r = retired_issued g ps in
    omega arith

issued_within : (m : ℕ) (ps : List Slot) → ((i : ℕ) (p : Slot) → slice_get ps i ≡ Some p → issued_at p ≤ m) → sum_by issued_at ps ≤ length ps * m
issued_within m [] h = omega arith
issued_within m (p ∷ ps) h =
    let a : length (p ∷ ps) * m ≡ m + length ps * m = ap (λ (n : ℕ). n * m) (let s : suc (length ps) ≡ 1 + length ps = omega arith in s)
    ∙ add-mul 1 (length ps) m ∙ ap (λ (n : ℕ). n + length ps * m) (one-mul m) in
    let b = sum_by-cons issued_at p ps in
    let c = h 0 p refl in
    let r = issued_within m ps (λ i q e. h (suc i) q e) in
    omega arith

issued_nowhere : (ps : List Slot) → length ps ≡ 0 → sum_by issued_at ps ≡ 0
issued_nowhere [] e = refl
issued_nowhere (p ∷ ps) e = absurd (omega arith)

used_nowhere : (ps : List Slot) → ((i : ℕ) (p : Slot) → slice_get ps i ≡ Some p → 1 ≤ issued_at p) → sum_by issued_at ps ≡ 0 → length ps ≡ 0
used_nowhere [] h e = refl
used_nowhere (p ∷ ps) h e = absurd (let a = h 0 p refl in let b = sum_by-cons issued_at p ps in omega arith)

module _ (ps : List Slot) (free : List ℕ) (room gone : ℕ) (l : Limits) (h : IsSound ps free room gone l) where
  pub few_slots : length ps ≤ 4294967295
  few_slots = let a = h.few in let b = h.places in omega arith

  pub late : gone * l.generations ≤ set_len (issued_of ps)
  late =
      let a : gone * l.generations ≡ count_by (is_retired l.generations) ps * l.generations = ap (λ (n : ℕ). n * l.generations) h.retired in
      let b = retired_issued l.generations ps in
      let c = len_issued ps 0 (let f = few_slots in omega arith) in
      omega arith

  pub ids_left : set_len (issued_of ps) < 18446744073709551615
  ids_left =
      let m = max 1 l.generations in
      let f = few_slots in
      let top : m ≤ 4294967295 = let g = h.generations in omega arith in
      let a = issued_within m ps h.within in
      let b : length ps * m ≤ 4294967295 * 4294967295 = mul-le-mul few_slots top in
      let c = len_issued ps 0 (omega arith) in
      omega arith

  pub held_count : len (keys_of ps) ≡ count_by is_held ps
  held_count = len_held ps 0 (let f = few_slots in omega arith)

  pub full : length free ≡ 0 → l.places ≤ length ps → l.places ≤ len (keys_of ps) + gone
  full e k =
      let a = all_slots l.generations ps in
      let b = held_count in
      let c = h.freed in
      let d = h.retired in
      omega arith

  pub left : (0 < length free) ⊎ (length ps < l.places) → len (keys_of ps) + gone < l.places
  left k =
      let a = all_slots l.generations ps in
      let b = held_count in
      let c = h.freed in
      let d = h.retired in
      let e = h.few in
      elim k [ inl m ↦ omega arith | inr m ↦ omega arith ]

  pub none_issued : length ps ≡ 0 → set_len (issued_of ps) ≡ 0
  none_issued e = len_issued ps 0 (omega arith) ∙ issued_nowhere ps e

  pub no_slots_yet : set_len (issued_of ps) ≡ 0 → length ps ≡ 0
  no_slots_yet e = used_nowhere ps h.used (sym (len_issued ps 0 (let f = few_slots in omega arith)) ∙ e)

-- ---- what is held was issued

pub key_found : (o : Option Slot) (g : ℕ) → IsSome (key_in o g) → (p : Slot) × (o ≡ Some p) × (p.generation ≡ g) × (is_some p.key ≡ true)
key_found None g k = absurd (cc)
key_found (Some p) g k = elim (cases_eq p.generation g) [
  | inl e ↦ (p, refl, e, ap (λ (b : Bool). is_some (cond b p.key None)) (sym (eq-eqb p.generation g e)) ∙ k)
  | inr ne ↦ absurd (let no : IsSome {T = ℕ} None = subst (λ (b : Bool). IsSome (cond b p.key None)) (ne_eqb p.generation g ne) k in cc)
]

issued_held : (o : Option Slot) (g : ℕ) → IsSome (key_in o g) → nat_lt g (issued_in o) ≡ true
issued_held o g k =
    let u = key_found o g k in
    let n : issued_in o ≡ g + 1 = ap issued_in u.1 ∙ ap (λ (b : Bool). (u.0).generation + cond b 1 0) u.3 ∙ ap (λ (n : ℕ). n + 1) u.2 in
    lt-ltb g (issued_in o) (omega arith)

pub held_issued : (ps : List Slot) (x : ℕ) → length ps ≤ 4294967295 → IsSome (get (keys_of ps) x) → contains (issued_of ps) x ≡ true
held_issued ps x l k = elim (number_cases x) [
  | inl e ↦ absurd (let no : IsSome {T = ℕ} None = subst (λ (o : Option ℕ). IsSome o) (ap (get (keys_of ps)) e ∙ get_zero ps) k in cc)
  | inr u ↦
      ap (contains (issued_of ps)) u.3 ∙ was_issued ps u.0 u.1 l u.2
      ∙ issued_held (slice_get ps u.0) u.1 (subst (λ (o : Option ℕ). IsSome o) (ap (get (keys_of ps)) u.3 ∙ get_held ps u.0 u.1 l u.2) k)
]

-- ---- answers

abbrev pub state_of : List Slot → ℕ → ℕ → Limits → SlotState
state_of ps gone r l = record { keys = keys_of ps; issued = issued_of ps; retired = gone; reserved = r; limits = l }

pub full_by : (ps : List Slot) (free : List ℕ) (room gone r : ℕ) (l : Limits)
    → IsSound ps free room gone l → (b : Bool) → (b ≡ true → (length free ≡ 0) × (l.places ≤ length ps))
    → (b ≡ false → (0 < length free) ⊎ (length ps < l.places)) → MatchBool b (HasNoSlot (state_of ps gone r l)) (HasSlot (state_of ps gone r l))
full_by ps free room gone r l h true none some = full ps free room gone l h (none refl).0 (none refl).1
full_by ps free room gone r l h false none some =
    record { place = left ps free room gone l h (some refl); id = let k = ids_left ps free room gone l h in omega arith }

pub key_is : (ps : List Slot) (x i g : ℕ) → length ps ≤ 4294967295 → i < 4294967296 → x ≡ number_at i g → get (keys_of ps) x ≡ key_in (slice_get ps i) g
key_is ps x i g l m e = ap (get (keys_of ps)) e ∙ get_held ps i g l m

pub key_nowhere : (ps : List Slot) (x : ℕ) → length ps ≤ 4294967295 → ((i g : ℕ) → i < 4294967295 → x ≡ number_at i g → ⊥) → get (keys_of ps) x ≡ None
key_nowhere ps x l out = elim (number_cases x) [
  | inl e ↦ ap (get (keys_of ps)) e ∙ get_zero ps
  | inr u ↦ elim (cases_lt u.0 4294967295) [
    | inl k ↦ absurd (out u.0 u.1 k u.3)
    | inr k ↦ key_is ps x u.0 u.1 l u.2 u.3 ∙ ap (λ (o : Option Slot). key_in o u.1) (slice_get_past ps u.0 (omega arith))
  ]
]

pub key_past : (ps : List Slot) (x i g : ℕ) → length ps ≤ 4294967295 → i < 4294967295 → x ≡ number_at i g → length ps ≤ i → get (keys_of ps) x ≡ None
key_past ps x i g l m e past = key_is ps x i g l (omega arith) e ∙ ap (λ (o : Option Slot). key_in o g) (slice_get_past ps i past)

pub key_there : (ps : List Slot) (x i g : ℕ) (p : Slot)
    → length ps ≤ 4294967295 → i < 4294967295 → x ≡ number_at i g → slice_get ps i ≡ Some p → get (keys_of ps) x ≡ cond (nat_eq p.generation g) p.key None
key_there ps x i g p l m e found = key_is ps x i g l (omega arith) e ∙ ap (λ (o : Option Slot). key_in o g) found
