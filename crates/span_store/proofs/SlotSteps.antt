-- What taking a slot and giving one back do to the state that slots are seen as.
use Rattle.std.proofs.Common.{◌≡◌, ℕ, ◌+◌, ◌<◌, ◌≤◌, Bool, true, false, cond, nat_eq, List, [], ◌∷◌, ◌++◌, length, get_or, slice_get, slice_set, Option, None}
use Rattle.std.proofs.Common.{Some, IsSome, is_some, refl, sym, ap, subst, ◌∙◌, arith, append-nil, length-set}
use Rattle.std.proofs.lemmas.Bool.{le-ltb}
use Rattle.std.proofs.lemmas.List.{length_push}
use Rattle.std.proofs.lemmas.Option.{get_or_from_slice_get, slice_get_past, slice_get_read, slice_get_within}
use Rattle.std.specs.FinMap.{get, insert, len, remove}
use Rattle.std.specs.FinSet.{contains, insert as add}
use Rattle.std.specs.Prelude.{vec_capacity}
use Rattle.span_core.specs.Span.{number_of}
use Rattle.span_core.specs.declared.span.Id.{Id}
use Rattle.span_store.specs.private.Slot.{SlotState, HasNoSlotReserved, HasSlot, KeepsSlots, TakesSlot, GivesBack, IsSound, first_held, number_at, slots_of}
use Rattle.span_store.specs.declared.limits.Limits.{Limits}
use Rattle.span_store.specs.declared.slot.Slot.{Slot}
use Rattle.span_store.specs.declared.slot.Slots.TheInside.{Inside}
use Rattle.span_store.proofs.Slotting.{ChangesAt, issued_in, issued_of, issued_same, issued_taken, key_in, keys_given_back, keys_of, keys_taken, was_issued}
use Rattle.span_store.proofs.SlotCounts.{all_slots, few_slots, held_count, key_found, key_is, key_nowhere, late, state_of}
use Rattle.span_store.proofs.SlotChanges.{changes_push, changes_set, last_free, slot_at, sound_freed, sound_made, sound_retired, sound_taken}

some_key : (o : Option ℕ) → is_some o ≡ true → (key : ℕ) × (o ≡ Some key)
some_key None e = absurd (cc)
some_key (Some key) e = (key, refl)

-- where a number is held, its slot holds a span in its generation
pub held_slot : (ps : List Slot) (x i g : ℕ)
    → length ps ≤ 4294967295 → i < 4294967295 → x ≡ number_at i g → IsSome (get (keys_of ps) x) → (key : ℕ) × (slice_get ps i ≡ Some (slot_at g (Some key)))
held_slot ps x i g l m e some =
    let u = key_found (slice_get ps i) g (subst (λ (o : Option ℕ). IsSome o) (key_is ps x i g l (omega arith) e) some) in
    let k = some_key (u.0).key u.3 in
    (k.0, u.1 ∙ ap (λ (n : ℕ). Some (slot_at n (u.0).key)) u.2 ∙ ap (λ (o : Option ℕ). Some (slot_at g o)) k.1)

pub held_at : (a : Inside) (s : SlotState) (x i g : ℕ)
    → slots_of a ≡ s → IsSound a.slots.items a.free.items (vec_capacity a.free) a.retired a.limits → i < 4294967295 → x ≡ number_at i g → IsSome (get s.keys x)
    → (key : ℕ) × (slice_get a.slots.items i ≡ Some (slot_at g (Some key)))
held_at a s x i g e h m n some = held_slot a.slots.items x i g (few_slots _ _ _ _ _ h) m n (subst (λ (t : SlotState). IsSome (get t.keys x)) (sym e) some)

pub held_somewhere : (a : Inside) (s : SlotState) (x : ℕ) → slots_of a ≡ s → IsSound a.slots.items a.free.items (vec_capacity a.free) a.retired a.limits
    → ((i g : ℕ) → i < 4294967295 → x ≡ number_at i g → ⊥) → IsSome (get s.keys x) → ⊥
held_somewhere a s x e h out some =
    let none : get s.keys x ≡ None = ap (λ (t : SlotState). get t.keys x) (sym e) ∙ key_nowhere a.slots.items x (few_slots _ _ _ _ _ h) out in
    let no : IsSome {T = ℕ} None = subst (λ (o : Option ℕ). IsSome o) none some in
    let not : ⊥ = cc in not

no_key_in : (b : Bool) → cond {A = Option ℕ} b None None ≡ None
no_key_in true = refl
no_key_in false = refl

-- a slot without a key has none in any generation
pub keyless : (n : ℕ) (o : Option Slot) → o ≡ Some (slot_at n None) → (h : ℕ) → key_in o h ≡ None
keyless n o e h = ap (λ (r : Option Slot). key_in r h) e ∙ no_key_in (nat_eq n h)

-- a slot without a key is given one
pub takes : {r : ℕ} (ps qs : List Slot) (i n key gone : ℕ) (l : Limits) (id : Id)
    → length ps ≤ 4294967295 → length qs ≤ 4294967295 → i < 4294967295 → issued_in (slice_get ps i) ≡ n → ((h : ℕ) → key_in (slice_get ps i) h ≡ None)
    → ChangesAt ps qs i (slot_at n (Some key)) → number_of id ≡ number_at i n → TakesSlot key id (state_of ps gone r l) (state_of qs gone r l)
takes {r} ps qs i n key gone l id few fews below was none ch e =
    let x = number_of id in
    let a : keys_of qs ≡ insert (keys_of ps) x key =
    keys_taken ps qs i n key few fews (omega arith) none ch ∙ ap (λ (y : ℕ). insert (keys_of ps) y key) (sym e) in
    let b : issued_of qs ≡ add (issued_of ps) x =
    issued_taken ps qs i n (slot_at n (Some key)) few fews (omega arith) was (omega arith) ch ∙ ap (add (issued_of ps)) (sym e) in
    record {
      fresh = ap (contains (issued_of ps)) e ∙ was_issued ps i n few (omega arith) ∙ le-ltb n (issued_in (slice_get ps i)) (omega arith);
      other = omega arith;
      unused = key_is ps x i n few (omega arith) e ∙ none n;
      state = λ j. record { keys = a j; issued = b j; retired = gone; reserved = r; limits = l };
    }

module _ (ps : List Slot) (free : List ℕ) (room gone : ℕ) (l : Limits) (h : IsSound ps free room gone l)
    (id : Id) (i n key : ℕ) (below : i < 4294967295) (e : number_of id ≡ number_at i n) (was : slice_get ps i ≡ Some (slot_at n (Some key))) where
  abbrev left_at : List Slot
  left_at = slice_set ps i (slot_at (n + 1) None)

  few_left : length left_at ≤ 4294967295
  few_left = let s = length-set ps i (slot_at (n + 1) None) in let f = few_slots ps free room gone l h in omega arith

  keys_left : keys_of left_at ≡ remove (keys_of ps) (number_of id)
  keys_left =
      keys_given_back ps left_at
      i n (n + 1) (Some key) (few_slots ps free room gone l h) few_left (omega arith) was (changes_set ps i (slot_at n (Some key)) (slot_at (n + 1) None) was)
      ∙ ap (remove (keys_of ps)) (sym e)

  issued_left : issued_of left_at ≡ issued_of ps
  issued_left =
      issued_same ps left_at i (slot_at (n + 1) None) (few_slots ps free room gone l h) few_left
      (let a : issued_in (slice_get ps i) ≡ n + 1 = ap issued_in was in omega arith)
      (changes_set ps i (slot_at n (Some key)) (slot_at (n + 1) None) was)

  -- the slot may hold another span
  pub gives_free : {r : ℕ} (more : List ℕ) → more ≡ free ++ i ∷ [] → n + 1 < l.generations → GivesBack id (state_of ps gone r l) (state_of left_at gone r l)
  gives_free more end short = record {
    keys = keys_left;
    issued = issued_left;
    limits = refl;
    reserved = refl;
    last = λ k. absurd (omega arith);
    not_last = λ k. refl;
    late = late left_at more room gone l (sound_freed ps free room gone l h more i n key end was short);
  }

  -- the slot held its last span
  pub gives_retired : {r : ℕ} → l.generations ≤ n + 1 → GivesBack id (state_of ps gone r l) (state_of left_at (gone + 1) r l)
  gives_retired over = record {
    keys = keys_left;
    issued = issued_left;
    limits = refl;
    reserved = refl;
    last = λ k. refl;
    not_last = λ k. absurd (omega arith);
    late = late left_at free room (gone + 1) l (sound_retired ps free room gone l h i n key was over);
  }

module _ (ps : List Slot) (free : List ℕ) (room gone : ℕ) (l : Limits) (h : IsSound ps free room gone l) where
  -- what is read at the slot that the free list has at its end
  read_free : (rest : List ℕ) (i : ℕ) (x : Slot) → free ≡ rest ++ i ∷ [] → x ≡ get_or ps i x → (x ≡ slot_at x.generation None) × (x.generation < l.generations)
  read_free rest i x e read =
      let u = last_free ps free room gone l h rest i e in
      let is : x ≡ slot_at u.0 None = read ∙ get_or_from_slice_get ps i (slot_at u.0 None) x u.1 in
      let g : x.generation ≡ u.0 = ap (λ (p : Slot). p.generation) is in
      (is ∙ ap (λ (n : ℕ). slot_at n None) (sym g), let b = u.2 in omega arith)

  pub free_within : (rest : List ℕ) (i : ℕ) → free ≡ rest ++ i ∷ [] → i < length ps
  free_within rest i e = let u = last_free ps free room gone l h rest i e in slice_get_within ps i (slot_at u.0 None) u.1

  free_there : (rest : List ℕ) (i : ℕ) (x : Slot) → free ≡ rest ++ i ∷ [] → x ≡ get_or ps i x → slice_get ps i ≡ Some (slot_at x.generation None)
  free_there rest i x e read = slice_get_read ps (length ps) i x refl (free_within rest i e) read ∙ ap (λ (p : Slot). Some p) (read_free rest i x e read).0

  pub sound_again : (rest : List ℕ) (i key : ℕ) (x : Slot)
      → free ≡ rest ++ i ∷ [] → x ≡ get_or ps i x → IsSound (slice_set ps i (slot_at x.generation (Some key))) rest room gone l
  sound_again rest i key x e read = sound_taken ps free room gone l h rest i x.generation key e (free_there rest i x e read) (read_free rest i x e read).1

  -- the slot freed last holds another span
  pub takes_again : {r : ℕ} (rest : List ℕ) (i key : ℕ) (x : Slot) (id : Id)
      → free ≡ rest ++ i ∷ [] → x ≡ get_or ps i x → number_of id ≡ number_at i x.generation
      → TakesSlot key id (state_of ps gone r l) (state_of (slice_set ps i (slot_at x.generation (Some key))) gone r l)
  takes_again rest i key x id e read is =
      let n = x.generation in
      let was = free_there rest i x e read in
      let few = few_slots ps free room gone l h in
      let within = free_within rest i e in
      let size = length-set ps i (slot_at n (Some key)) in
      takes ps (slice_set ps i (slot_at n (Some key)))
      i n key gone l id few (omega arith) (omega arith) (ap issued_in was ∙ (let z : n + 0 ≡ n = omega arith in z)) (keyless n (slice_get ps i) was)
      (changes_set ps i (slot_at n None) (slot_at n (Some key)) was) is

  -- a new slot holds its first span
  pub sound_new : (qs : List Slot) (more rest : List ℕ) (larger key : ℕ)
      → length ps < l.places → qs ≡ ps ++ first_held key ∷ [] → more ≡ rest → free ≡ rest ++ [] → length qs ≤ larger → IsSound qs more larger gone l
  sound_new qs more rest larger key below made same none fits =
      let f : free ≡ more = none ∙ append-nil rest ∙ sym same in
      subst (λ (rs : List Slot). IsSound rs more larger gone l) (sym made)
      (subst (λ (xs : List ℕ). IsSound (ps ++ first_held key ∷ []) xs larger gone l) f
      (sound_made ps free room gone l h larger key below (subst (λ (rs : List Slot). length rs ≤ larger) made fits)))

  pub takes_new : {r : ℕ} (qs : List Slot) (i key : ℕ) (id : Id) → length ps < l.places
      → qs ≡ ps ++ first_held key ∷ [] → i ≡ length ps → number_of id ≡ number_at i 0 → TakesSlot key id (state_of ps gone r l) (state_of qs gone r l)
  takes_new {r} qs i key id below made end is =
      let few = few_slots ps free room gone l h in
      let p = h.places in
      let none : slice_get ps (length ps) ≡ None = slice_get_past ps (length ps) (omega arith) in
      let size = length_push ps (first_held key) in
      subst (λ (rs : List Slot). TakesSlot key id (state_of ps gone r l) (state_of rs gone r l)) (sym made)
      (takes ps (ps ++ first_held key ∷ []) (length ps) 0 key gone l id few (omega arith) (omega arith)
      (ap issued_in none) (λ g. ap (λ (o : Option Slot). key_in o g) none) (changes_push ps (first_held key)) (is ∙ ap (λ (k : ℕ). number_at k 0) end))

  -- with no free slot, one may be made where places are left
  may_make : length free ≡ 0 → len (keys_of ps) + gone < l.places → length ps < l.places
  may_make e below =
      let a = all_slots l.generations ps in
      let b = held_count ps free room gone l h in
      let c = h.freed in
      let d = h.retired in
      omega arith

-- where no slot is free and there is memory for no other, as many as that are held or retired
pub none_reserved : (a : Inside) (s : SlotState)
    → slots_of a ≡ s → KeepsSlots a → length a.free.items ≡ 0 → a.reserved ≤ length a.slots.items → HasNoSlotReserved s
none_reserved a s e h none most = subst HasNoSlotReserved e (
    let l = a.limits in
    let ps = a.slots.items in
    let b = all_slots l.generations ps in
    let c = held_count ps a.free.items (vec_capacity a.free) a.retired l h.sound in
    let d = h.sound.freed in
    let f = h.sound.retired in
    let g : a.reserved ≤ len (keys_of ps) + a.retired = omega arith in
    g
    )

-- where a slot is left and none is free, one may be made
pub may_make_at : (a : Inside) (s : SlotState) → slots_of a ≡ s
    → IsSound a.slots.items a.free.items (vec_capacity a.free) a.retired a.limits → length a.free.items ≡ 0 → HasSlot s → length a.slots.items < a.limits.places
may_make_at a s e h none left = may_make _ _ _ _ _ h none (subst (λ (t : SlotState). len t.keys + t.retired < t.limits.places) (sym e) left.place)

pub gives_from : (id : Id) (s t u : SlotState) → s ≡ t → GivesBack id s u → GivesBack id t u
gives_from id s t u e g = subst (λ (r : SlotState). GivesBack id r u) e g

pub takes_from : (key : ℕ) (id : Id) (s t u : SlotState) → s ≡ t → TakesSlot key id s u → TakesSlot key id t u
takes_from key id s t u e g = subst (λ (r : SlotState). TakesSlot key id r u) e g
