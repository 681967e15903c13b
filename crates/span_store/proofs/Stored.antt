-- The spans that the store keeps: what is found under the keys of their numbers.
use Rattle.std.specs.Prelude.{◌≡◌, ◌≢◌, ℕ, ◌+◌, ◌<◌, ◌≤◌, max, zero, suc, T, List, [], ◌∷◌, ◌++◌, Option, None, Some, Bool, true, false, cond, ◌&&◌, length}
use Rattle.std.specs.Prelude.{IfSome, IsSome, is_some, slice_get, slice_index_or, slice_set}
use Rattle.std.specs.Borrow.{Bor, MutBor}
use Rattle.std.specs.List.{ItemBy, count_by}
use Rattle.std.specs.Option.{IsSomeAnd, option_and_then, option_copied, option_copied_mut}
use Rattle.std.specs.Ordering.{nat_cmp, eq_by_cmp, is_eq, is_lt}
use Rattle.std.specs.Cmp.{nat_cmp_total, eq_by_cmp_equiv}
use Rattle.std.specs.FinMap.Entries.{below_all}
use Rattle.std.specs.FinSet.{insert as add}
use Rattle.std.specs.FinMap.{FinMap, empty, get, get-empty, insert, remove, len, entries, entries_sorted, is_sorted, from_entries, find, get-entries}
use Rattle.std.specs.FinMap.{get-from_entries, len-insert, len-empty, len-entries, same_map, nat_cmp-IsAntisymmetric}
use Rattle.slab.specs.Slab.{Slab, Updates, get as under, slab_len, with_value}
use Rattle.slab.proofs.SlabLemmas.{Updates-with_value}
use Rattle.std.specs.declared.cmp.Ordering.{Ordering}
use Rattle.std.specs.declared.cmp.Ordering.TheVariants.{Less, Equal, Greater}
use Rattle.std.proofs.Common.{Vec, Global, ◌⊎◌, arith, length-set, refl, sym, ap, subst, ◌∙◌, add-one, inl, inr}
use Rattle.std.proofs.lemmas.Bool.{cases_eq, true≢false}
use Rattle.std.proofs.lemmas.List.Sums.{sum_by-cons}
use Rattle.std.proofs.lemmas.Option.{same_Some, slice_get-get_or, slice_get_past}
use Rattle.span_extensions.specs.Extensions.{no_values}
use Rattle.span_core.specs.Span.{number_of}
use Rattle.span_core.specs.declared.span.Id.{Id}
use Rattle.span_extensions.specs.declared.extensions.ExtensionMap.{ExtensionMap}
use Rattle.span_extensions.proofs.NumberMaps.{get_inserted, get_removed, get_beside_inserted, get_beside_removed}
use Rattle.span_store.specs.private.Slot.{SlotState, TakesSlot}
use Rattle.span_store.specs.private.StoreRepr.{CountsAny, GrowsEmpty, HasNoneReserved, Inserts, KeepsSpans, KeptSpans, Writes, counts_in, found_in, kept_of}
use Rattle.span_store.specs.private.StoreRepr.{with_found}
use Rattle.span_store.specs.private.StoreRepr.{with_record, with_values}
use Rattle.span_store.specs.declared.span_record.SpanRecord.{SpanRecord}
use Rattle.span_store.specs.declared.span_store.SpanStore.TheInside.{Inside}
use Rattle.span_store.proofs.Entries.{put_back}

first : (a b : Bool) → T (a && b) → T a
first true b p = tt
first false b p = p

second : (a b : Bool) → T (a && b) → T b
second true b p = p
second false b p = absurd p

both : (a b : Bool) → T a → T b → T (a && b)
both true b p q = q
both false b p q = p

not_equal : (o : Ordering) → T (is_lt o) → is_eq o ≡ false
not_equal Less p = refl
not_equal Equal p = absurd p
not_equal Greater p = refl

equal : (o : Ordering) → is_eq o ≡ true → o ≡ Equal
equal Less e = cc
equal Equal e = refl
equal Greater e = cc

-- a key below those of these entries isn't among them
absent : (q : ℕ) (es : List (ℕ × ℕ)) → T (below_all nat_cmp q es) → find nat_cmp q es ≡ None
absent q [] h = refl
absent q (e ∷ es) h = ap (λ b. cond b (Some e.1) (find nat_cmp q es)) (not_equal (nat_cmp q e.0) (first _ _ h)) ∙ absent q es (second _ _ h)

-- the first key of entries in order stands there once
once : (q : ℕ) (e : ℕ × ℕ) (es : List (ℕ × ℕ)) → T (is_sorted nat_cmp (e ∷ es)) → eq_by_cmp nat_cmp q e.0 ≡ true → find nat_cmp q es ≡ None
once q e es h t = ap (λ x. find nat_cmp x es) (nat_cmp-IsAntisymmetric q e.0 (equal (nat_cmp q e.0) t)) ∙ absent e.0 es (first _ _ h)

found_later : {A : Type 0} (f : ℕ → Option A) (q : ℕ) (e : ℕ × ℕ) (es : List (ℕ × ℕ)) (b : Bool) → (eq_by_cmp nat_cmp q e.0 ≡ true → find nat_cmp q es ≡ None)
    → eq_by_cmp nat_cmp q e.0 ≡ b → find nat_cmp q (found_in f es) ≡ option_and_then f (find nat_cmp q es)
    → (o : Option A) → f e.1 ≡ o → find nat_cmp q (with_found e.0 o (found_in f es)) ≡ option_and_then f (cond b (Some e.1) (find nat_cmp q es))
found_later f q e es true none t rest None p = rest ∙ ap (option_and_then f) (none t) ∙ sym p
found_later f q e es false none t rest None p = rest
found_later f q e es true none t rest (Some r) p = ap (λ b. cond b (Some r) (find nat_cmp q (found_in f es))) t ∙ sym p
found_later f q e es false none t rest (Some r) p = ap (λ b. cond b (Some r) (find nat_cmp q (found_in f es))) t ∙ rest

in_tail : {A : Type 0} (f : ℕ → Option A) (e : ℕ × ℕ) (es : List (ℕ × ℕ)) (x k : ℕ) (b : Bool) → eq_by_cmp nat_cmp x e.0 ≡ b
    → (b ≡ true → find nat_cmp x es ≡ None) → (find nat_cmp x (e ∷ es) ≡ Some k → IsSome (f k)) → find nat_cmp x es ≡ Some k → IsSome (f k)
in_tail f e es x k true t none all is = absurd (true≢false (sym (ap is_some is) ∙ ap is_some (none refl)))
in_tail f e es x k false t none all is = all (ap (λ b. cond b (Some e.1) (find nat_cmp x es)) t ∙ is)

one_more : {A : Type 0} (f : ℕ → Option A) (x n : ℕ) (es : List (ℕ × ℕ))
    → find nat_cmp x (found_in f es) ≡ None → len (from_entries {R = nat_cmp} (found_in f es)) ≡ n
    → (o : Option A) → IsSome o → len (from_entries {R = nat_cmp} (with_found x o (found_in f es))) ≡ suc n
one_more f x n es none rest None p = absurd (true≢false (sym p))
one_more f x n es none rest (Some r) p =
    len-insert nat_cmp_total (from_entries (found_in f es)) x r
    ∙ ap (λ o. cond (is_some o) (len (from_entries {R = nat_cmp} (found_in f es))) (len (from_entries {R = nat_cmp} (found_in f es)) + 1))
    (get-from_entries nat_cmp_total (found_in f es) x ∙ none)
    ∙ ap (λ i. i + 1) rest ∙ add-one n

module _ {A : Type 0} where
  -- a search in what is found is what is found for the key that is searched
  find-found_in : (f : ℕ → Option A) (q : ℕ) (es : List (ℕ × ℕ))
      → T (is_sorted nat_cmp es) → find nat_cmp q (found_in f es) ≡ option_and_then f (find nat_cmp q es)
  find-found_in f q [] h = refl
  find-found_in f q (e ∷ es) h = found_later f q e es (eq_by_cmp nat_cmp q e.0) (once q e es h) refl (find-found_in f q es (second _ _ h)) (f e.1) refl

  -- as much is found as there are keys, where something is found for each
  len-found_in : (f : ℕ → Option A) (es : List (ℕ × ℕ))
      → T (is_sorted nat_cmp es) → ((x k : ℕ) → find nat_cmp x es ≡ Some k → IsSome (f k)) → len (from_entries {R = nat_cmp} (found_in f es)) ≡ length es
  len-found_in f [] h all = len-empty nat_cmp A
  len-found_in f (e ∷ es) h all =
      let same = (eq_by_cmp_equiv nat_cmp_total).refl e.0 in
      let sorted : T (is_sorted nat_cmp es) = second _ _ h in
      one_more f e.0 (length es) es
      (find-found_in f e.0 es sorted ∙ ap (option_and_then f) (once e.0 e es h same))
      (len-found_in f es sorted (λ x k. in_tail f e es x k (eq_by_cmp nat_cmp x e.0) refl (once x e es h) (all x k)))
      (f e.1) (all e.0 e.1 (ap (λ b. cond b (Some e.1) (find nat_cmp e.0 es)) same))

  -- what is found under the keys of these numbers, as the map of it
  abbrev pub found : (ℕ → Option A) → FinMap nat_cmp ℕ → FinMap nat_cmp A
  found f m = from_entries (found_in f (entries m))

  pub get-found : (f : ℕ → Option A) (m : FinMap nat_cmp ℕ) (q : ℕ) → get (found f m) q ≡ option_and_then f (get m q)
  get-found f m q = get-from_entries nat_cmp_total (found_in f (entries m)) q
      ∙ find-found_in f q (entries m) (entries_sorted m) ∙ ap (option_and_then f) (sym (get-entries m q))

  -- where no number has a key, nothing is found
  pub found_none : (f : ℕ → Option A) (m : FinMap nat_cmp ℕ) → m ≡ empty → found f m ≡ empty
  found_none f m e = same_map nat_cmp_total nat_cmp-IsAntisymmetric _ _ (λ q.
      get-found f m q ∙ ap (λ (m : FinMap nat_cmp ℕ). option_and_then f (get m q)) e ∙ ap (option_and_then f) (get-empty nat_cmp q) ∙ sym (get-empty nat_cmp q))

  pub len-found : (f : ℕ → Option A) (m : FinMap nat_cmp ℕ) → ((x k : ℕ) → get m x ≡ Some k → IsSome (f k)) → len (found f m) ≡ len m
  len-found f m all = len-found_in f (entries m) (entries_sorted m) (λ x k is. all x k (get-entries m x ∙ is)) ∙ sym (len-entries m)

  alike : (f g : ℕ → Option A) (o : Option ℕ) → ((k : ℕ) → o ≡ Some k → g k ≡ f k) → option_and_then g o ≡ option_and_then f o
  alike f g None h = refl
  alike f g (Some k) h = h k refl

  -- the same is found where the same is under each key
  pub found_same : (f g : ℕ → Option A) (m : FinMap nat_cmp ℕ) → ((q k : ℕ) → get m q ≡ Some k → g k ≡ f k) → found g m ≡ found f m
  found_same f g m same = same_map nat_cmp_total nat_cmp-IsAntisymmetric _ _ (λ q. get-found g m q ∙ alike f g (get m q) (same q) ∙ sym (get-found f m q))

  -- a new number finds what is under its key
  pub found_inserted : (f g : ℕ → Option A) (m : FinMap nat_cmp ℕ) (x key : ℕ) (v : A)
      → g key ≡ Some v → ((q k : ℕ) → x ≢ q → get m q ≡ Some k → g k ≡ f k) → found g (insert m x key) ≡ insert (found f m) x v
  found_inserted f g m x key v here same =
      same_map nat_cmp_total nat_cmp-IsAntisymmetric _ _ (λ q. elim (cases_eq x q) [
        | inl is ↦ subst (λ q. get (found g (insert m x key)) q ≡ get (insert (found f m) x v) q)
            is (get-found g (insert m x key) x ∙ ap (option_and_then g) (get_inserted m x key) ∙ here ∙ sym (get_inserted (found f m) x v))
        | inr differs ↦ get-found g (insert m x key) q ∙ ap (option_and_then g) (get_beside_inserted m x q key differs)
            ∙ alike f g (get m q) (λ k. same q k differs) ∙ sym (get-found f m q) ∙ sym (get_beside_inserted (found f m) x q v differs)
      ])

  -- nothing is found for a number that was taken out
  pub found_removed : (f g : ℕ → Option A) (m : FinMap nat_cmp ℕ) (x : ℕ)
      → ((q k : ℕ) → x ≢ q → get m q ≡ Some k → g k ≡ f k) → found g (remove m x) ≡ remove (found f m) x
  found_removed f g m x same =
      same_map nat_cmp_total nat_cmp-IsAntisymmetric _ _ (λ q. elim (cases_eq x q) [
        | inl is ↦ subst (λ q. get (found g (remove m x)) q ≡ get (remove (found f m) x) q)
            is (get-found g (remove m x) x ∙ ap (option_and_then g) (get_removed m x) ∙ sym (get_removed (found f m) x))
        | inr differs ↦ get-found g (remove m x) q ∙ ap (option_and_then g) (get_beside_removed m x q differs)
            ∙ alike f g (get m q) (λ k. same q k differs) ∙ sym (get-found f m q) ∙ sym (get_beside_removed (found f m) x q differs)
      ])

  -- a write under the key of a number is a write for this number
  pub found_written : (f g : ℕ → Option A) (m : FinMap nat_cmp ℕ) (x key : ℕ) (v : A)
      → get m x ≡ Some key → g key ≡ Some v → ((q k : ℕ) → x ≢ q → get m q ≡ Some k → g k ≡ f k) → found g m ≡ insert (found f m) x v
  found_written f g m x key v is here same =
      same_map nat_cmp_total nat_cmp-IsAntisymmetric _ _ (λ q. elim (cases_eq x q) [
        | inl at ↦ subst (λ q. get (found g m) q ≡ get (insert (found f m) x v) q)
            at (get-found g m x ∙ ap (option_and_then g) is ∙ here ∙ sym (get_inserted (found f m) x v))
        | inr differs ↦
            get-found g m q ∙ alike f g (get m q) (λ k. same q k differs) ∙ sym (get-found f m q) ∙ sym (get_beside_inserted (found f m) x q v differs)
      ])

-- none without a value is added, or one more
pub grown_none : (xs : List ExtensionMap) → GrowsEmpty xs xs
grown_none [] = tt
grown_none (x ∷ xs) = (refl, grown_none xs)

pub grown_more : (xs ys : List ExtensionMap) (e : ExtensionMap) → e ≡ no_values → GrowsEmpty xs ys → GrowsEmpty xs (ys ++ e ∷ [])
grown_more [] [] e is h = (is, tt)
grown_more [] (y ∷ ys) e is h = (h.0, grown_more [] ys e is h.1)
grown_more (x ∷ xs) [] e is h = absurd h
grown_more (x ∷ xs) (y ∷ ys) e is h = (h.0, grown_more xs ys e is h.1)

pub grown_longer : (xs ys : List ExtensionMap) → GrowsEmpty xs ys → length xs ≤ length ys
grown_longer [] ys h = omega arith
grown_longer (x ∷ xs) [] h = absurd h
grown_longer (x ∷ xs) (y ∷ ys) h = let rest = grown_longer xs ys h.1 in omega arith

-- what is there stays, and what is new has no value
pub grown_kept : (xs ys : List ExtensionMap) (i : ℕ) → GrowsEmpty xs ys → IsSome (slice_get xs i) → slice_get ys i ≡ slice_get xs i
grown_kept [] ys i h there = absurd (true≢false (sym there))
grown_kept (x ∷ xs) [] i h there = absurd h
grown_kept (x ∷ xs) (y ∷ ys) zero h there = ap Some h.0
grown_kept (x ∷ xs) (y ∷ ys) (suc i) h there = grown_kept xs ys i h.1 there

pub grown_idle : (xs ys : List ExtensionMap) (i : ℕ) (e : ExtensionMap)
    → GrowsEmpty xs ys → (slice_get xs i ≡ Some e → e ≡ no_values) → slice_get ys i ≡ Some e → e ≡ no_values
grown_idle [] [] i e h was is = absurd (true≢false (sym (ap is_some is)))
grown_idle [] (y ∷ ys) zero e h was is = sym (same_Some y e is) ∙ h.0
grown_idle [] (y ∷ ys) (suc i) e h was is = grown_idle [] ys i e h.1 (λ n. absurd (true≢false (sym (ap is_some n)))) is
grown_idle (x ∷ xs) [] i e h was is = absurd h
grown_idle (x ∷ xs) (y ∷ ys) zero e h was is = was (ap Some (sym h.0) ∙ is)
grown_idle (x ∷ xs) (y ∷ ys) (suc i) e h was is = grown_idle xs ys i e h.1 was is

-- what the store shows of a number is what stands under its key
pub seen_record : (a : Inside) (s : KeptSpans) (x : ℕ) → kept_of a ≡ s → option_and_then (under a.records) (get a.slots.keys x) ≡ get s.records x
seen_record a s x view_is = sym (get-found (under a.records) a.slots.keys x) ∙ ap (λ (s : KeptSpans). get s.records x) view_is

pub seen_extensions : (a : Inside) (s : KeptSpans) (x : ℕ)
    → kept_of a ≡ s → option_and_then (slice_get a.extensions.items) (get a.slots.keys x) ≡ get s.extensions x
seen_extensions a s x view_is = sym (get-found (slice_get a.extensions.items) a.slots.keys x) ∙ ap (λ (s : KeptSpans). get s.extensions x) view_is

-- what is found has a key
pub keyed : {A : Type 0} (f : ℕ → Option A) (o : Option ℕ) → IsSome (option_and_then f o) → IsSome o
keyed f None there = there
keyed f (Some k) there = refl

-- what a call of `get` answers of a list
pub item : {X : Type 0} (xs : List X) (i : ℕ) (r : Option (Bor X)) → ItemBy (λ (x : Bor X). x.now) xs i i r → option_copied r ≡ slice_get xs i
item xs i None h = sym (slice_get_past xs i h.3)
item xs i (Some x) h = ap Some (h.3.1 x.now) ∙ sym (slice_get-get_or xs i x.now h.3.0)

-- another number has another key
pub other_key : (a : Inside) (x q key k : ℕ) → KeepsSpans a → get a.slots.keys x ≡ Some key → x ≢ q → get a.slots.keys q ≡ Some k → k ≢ key
other_key a x q key k keeps has differs is same = differs (keeps.apart x q k (has ∙ ap Some (sym same)) is)

-- a record that is written under the key of a number is the number's
pub record_written : (a : Inside) (s : KeptSpans) (x key : ℕ) (v : SpanRecord)
    → KeepsSpans a → kept_of a ≡ s → get a.slots.keys x ≡ Some key → kept_of (record a { records = with_value a.records key v }) ≡ with_record s x v
record_written a s x key v keeps view_is has =
    let updates = Updates-with_value a.records key v (keeps.recorded x key has) in
    let new = found_written (under a.records) (under (with_value a.records key v))
    a.slots.keys x key v has updates.changed (λ q k differs is. updates.others k (other_key a x q key k keeps has differs is)) in
    (λ i. record (kept_of a) { records = new i }) ∙ ap (λ (s : KeptSpans). with_record s x v) view_is

-- what stands in a list after a write
pub get-set_here : {X : Type 0} (xs : List X) (i : ℕ) (v : X) → IsSome (slice_get xs i) → slice_get (slice_set xs i v) i ≡ Some v
get-set_here [] i v there = absurd (true≢false (sym there))
get-set_here (x ∷ xs) zero v there = refl
get-set_here (x ∷ xs) (suc i) v there = get-set_here xs i v there

pub get-set_beside : {X : Type 0} (xs : List X) (i k : ℕ) (v : X) → k ≢ i → slice_get (slice_set xs i v) k ≡ slice_get xs k
get-set_beside [] i k v differs = refl
get-set_beside (x ∷ xs) zero zero v differs = absurd (differs refl)
get-set_beside (x ∷ xs) zero (suc k) v differs = refl
get-set_beside (x ∷ xs) (suc i) zero v differs = refl
get-set_beside (x ∷ xs) (suc i) (suc k) v differs = get-set_beside xs i k v (λ e. differs (ap suc e))

set_there : {X : Type 0} (xs : List X) (i k : ℕ) (v : X) → IsSome (slice_get xs k) → IsSome (slice_get (slice_set xs i v) k)
set_there {X} xs i k v there =
    elim (cases_eq k i) [
      | inl same ↦ subst (λ (j : ℕ). IsSome (slice_get (slice_set xs i v) j))
          (sym same) (ap (λ (o : Option X). is_some o) (get-set_here xs i v (subst (λ (j : ℕ). IsSome (slice_get xs j)) same there)))
      | inr differs ↦ ap (λ (o : Option X). is_some o) (get-set_beside xs i k v differs) ∙ there
    ]

pub within : {X : Type 0} (xs : List X) (i : ℕ) → IsSome (slice_get xs i) → i < length xs
within [] i there = absurd (true≢false (sym there))
within (x ∷ xs) zero there = omega arith
within (x ∷ xs) (suc i) there = let rest = within xs i there in omega arith

stands : {X : Type 0} (xs : List X) (i : ℕ) → i < length xs → IsSome (slice_get xs i)
stands [] i h = absurd (omega arith)
stands (x ∷ xs) zero h = refl
stands (x ∷ xs) (suc i) h = stands xs i (omega arith)

-- another value under the key of a number keeps what the store keeps true, and is the number's
pub keeps_values : (a : Inside) (e : Vec ExtensionMap Global) (x key : ℕ) (w : ExtensionMap)
    → KeepsSpans a → get a.slots.keys x ≡ Some key → e.items ≡ slice_set a.extensions.items key w → KeepsSpans (record a { extensions = e })
keeps_values a e x key w keeps has is =
    record {
      recorded = keeps.recorded;
      extended = λ y k at. ap (λ (l : List ExtensionMap). is_some (slice_get l k)) is ∙ set_there a.extensions.items key k w (keeps.extended y k at);
      apart = keeps.apart;
      all = keeps.all;
      idle = λ k v none at.
          let beside : k ≢ key = λ same. true≢false (sym (keeps.recorded x key has)
          ∙ ap (λ (j : ℕ). is_some (under a.records j)) (sym same) ∙ ap (λ (o : Option SpanRecord). is_some o) none) in
          keeps.idle k v none (sym (get-set_beside a.extensions.items key k w beside) ∙ ap (λ (l : List ExtensionMap). slice_get l k) (sym is) ∙ at);
      covered = (let long = ap length is in let set = length-set a.extensions.items key w in let kept = keeps.covered in omega arith);
      room = keeps.room;
      reached = (let long = ap length is in let set = length-set a.extensions.items key w in let kept = keeps.reached in omega arith);
    }

pub values_written : (a : Inside) (s : KeptSpans) (e : Vec ExtensionMap Global) (x key : ℕ) (w : ExtensionMap) → KeepsSpans a
    → kept_of a ≡ s → get a.slots.keys x ≡ Some key → e.items ≡ slice_set a.extensions.items key w → kept_of (record a { extensions = e }) ≡ with_values s x w
values_written a s e x key w keeps view_is has is =
    let here = ap (λ (l : List ExtensionMap). slice_get l key) is ∙ get-set_here a.extensions.items key w (keeps.extended x key has) in
    let new = found_written (slice_get a.extensions.items) (slice_get e.items) a.slots.keys x key w has here (λ q k differs at.
    ap (λ (l : List ExtensionMap). slice_get l k) is ∙ get-set_beside a.extensions.items key k w (other_key a x q key k keeps has differs at)) in
    (λ i. record (kept_of a) { extensions = new i }) ∙ ap (λ (s : KeptSpans). with_values s x w) view_is

-- a number without a key has no record
pub unseen_record : (a : Inside) (s : KeptSpans) (x : ℕ) → kept_of a ≡ s → get a.slots.keys x ≡ None → get s.records x ≡ None
unseen_record a s x view_is none = sym (seen_record a s x view_is) ∙ ap (option_and_then (under a.records)) none

-- and so nothing is counted for it
pub counts_nothing : (o : Option SpanRecord) → o ≡ None → IfSome o (λ r. CountsAny (counts_in r) → ⊥)
counts_nothing o none = subst (λ (o : Option SpanRecord). IfSome o (λ r. CountsAny (counts_in r) → ⊥)) (sym none) tt

-- a number with a record has a key
pub has_key : (P : SpanRecord → Type 0) (a : Inside) (s : KeptSpans) (x : ℕ) → kept_of a ≡ s → IsSomeAnd (get s.records x) P → get a.slots.keys x ≡ None → ⊥
has_key P a s x view_is there none = subst (λ (o : Option SpanRecord). IsSomeAnd o P) (unseen_record a s x view_is none) there

-- where a number has a key, a record is lent
pub lends_some : (a : Inside) (x key : ℕ) (o : Option (MutBor SpanRecord))
    → KeepsSpans a → get a.slots.keys x ≡ Some key → option_copied_mut o ≡ under a.records key → o ≡ None → ⊥
lends_some a x key o keeps has lent none =
    true≢false (sym (keeps.recorded x key has)
    ∙ ap (λ (o : Option SpanRecord). is_some o) (sym lent ∙ ap (λ (o : Option (MutBor SpanRecord)). option_copied_mut o) none))

-- and it is the number's
pub lent_record : (a : Inside) (s : KeptSpans) (x key : ℕ) (o : Option (MutBor SpanRecord)) (b : MutBor SpanRecord)
    → kept_of a ≡ s → get a.slots.keys x ≡ Some key → option_copied_mut o ≡ under a.records key → o ≡ Some b → get s.records x ≡ Some b.now
lent_record a s x key o b view_is has lent is =
    sym (seen_record a s x view_is) ∙ ap (option_and_then (under a.records)) has ∙ sym lent ∙ ap (λ (o : Option (MutBor SpanRecord)). option_copied_mut o) is

-- what is written through it changes the number's record
pub writes_record : (f : SpanRecord → SpanRecord) (a : Inside) (s : KeptSpans) (id : Id) (key : ℕ) (r : SpanRecord)
    → KeepsSpans a → kept_of a ≡ s → get a.slots.keys (number_of id) ≡ Some key → get s.records (number_of id) ≡ Some r
    → Writes id f s (kept_of (record a { records = with_value a.records key (f r) }))
writes_record f a s id key r keeps view_is has is =
    subst (λ (o : Option SpanRecord). IsSomeAnd o (λ w. kept_of (record a { records = with_value a.records key (f r) }) ≡ with_record s (number_of id) (f w)))
    (sym is) (record_written a s (number_of id) key (f r) keeps view_is has)

-- as many values stand in a list after a write over one of them
values_set : {X : Type 0} (xs : List (Option X)) (i : ℕ) (v : X)
    → IsSome (slice_index_or xs i None) → count_by is_some (slice_set xs i (Some v)) ≡ count_by is_some xs
values_set [] i v there = refl
values_set {X} (o ∷ xs) zero v there =
    sum_by-cons (λ (o : Option X). cond {A = ℕ} (is_some o) 1 0) (Some v) xs
    ∙ ap (λ (b : Bool). cond {A = ℕ} b 1 0 + count_by is_some xs) (sym there)
    ∙ sym (sum_by-cons (λ (o : Option X). cond {A = ℕ} (is_some o) 1 0) o xs)
values_set {X} (o ∷ xs) (suc i) v there =
    sum_by-cons (λ (o : Option X). cond {A = ℕ} (is_some o) 1 0) o (slice_set xs i (Some v))
    ∙ ap (λ (n : ℕ). cond {A = ℕ} (is_some o) 1 0 + n) (values_set xs i v there)
    ∙ sym (sum_by-cons (λ (o : Option X). cond {A = ℕ} (is_some o) 1 0) o xs)

-- another record under the key of a number keeps what the store keeps true
pub keeps_written : (a : Inside) (x key : ℕ) (v : SpanRecord)
    → KeepsSpans a → get a.slots.keys x ≡ Some key → KeepsSpans (record a { records = with_value a.records key v })
keeps_written a x key v keeps has =
    let there : IsSome (under a.records key) = keeps.recorded x key has in
    let updates = Updates-with_value a.records key v there in
    let written = with_value a.records key v in
    let same : (k : ℕ) → is_some (under written k) ≡ is_some (under a.records k) = λ k. elim (cases_eq k key) [
      | inl at ↦ ap (λ (j : ℕ). is_some (under written j)) at
          ∙ ap (λ (o : Option SpanRecord). is_some o) updates.changed ∙ sym there ∙ ap (λ (j : ℕ). is_some (under a.records j)) (sym at)
      | inr differs ↦ ap (λ (o : Option SpanRecord). is_some o) (updates.others k differs)
    ] in
    record {
      recorded = λ y k at. same k ∙ keeps.recorded y k at;
      extended = keeps.extended;
      apart = keeps.apart;
      all = values_set a.records.slots key v there ∙ keeps.all;
      idle = λ k e none at. elim (cases_eq k key) [
        | inl here ↦
            absurd (true≢false (sym (same k ∙ ap (λ (j : ℕ). is_some (under a.records j)) here ∙ there) ∙ ap (λ (o : Option SpanRecord). is_some o) none))
        | inr differs ↦ keeps.idle k e (sym (updates.others k differs) ∙ none) at
      ];
      covered = (let set = length-set a.records.slots key (Some v) in let kept = keeps.covered in omega arith);
      room = keeps.room;
      reached = keeps.reached;
    }

-- as many numbers are held as are put in and not taken out
pub len_put : (m : FinMap nat_cmp ℕ) (x k : ℕ) → get m x ≡ None → len (insert m x k) ≡ len m + 1
len_put m x k none = len-insert nat_cmp_total m x k ∙ ap (λ (o : Option ℕ). cond (is_some o) (len m) (len m + 1)) none

pub len_gone : (m : FinMap nat_cmp ℕ) (x k : ℕ) → get m x ≡ Some k → len (remove m x) + 1 ≡ len m
len_gone m x k is = sym (len_put (remove m x) x k (get_removed m x)) ∙ ap len (put_back m x k is)

-- room for a span more changes nothing that is seen
pub keeps_grown : (a : Inside) (r : Slab SpanRecord) (e : Vec ExtensionMap Global) → KeepsSpans a → r.slots ≡ a.records.slots
    → a.records.capacity ≤ r.capacity → GrowsEmpty a.extensions.items e.items → KeepsSpans (record a { records = r; extensions = e })
keeps_grown a r e keeps same more grown =
    let read : (k : ℕ) → under r k ≡ under a.records k = λ k. ap (λ (l : List (Option SpanRecord)). slice_index_or l k None) same in
    record {
      recorded = λ y k at. ap (λ (o : Option SpanRecord). is_some o) (read k) ∙ keeps.recorded y k at;
      extended =
          λ y k at. ap (λ (o : Option ExtensionMap). is_some o) (grown_kept a.extensions.items e.items k grown (keeps.extended y k at)) ∙ keeps.extended y k at;
      apart = keeps.apart;
      all = ap (count_by is_some) same ∙ keeps.all;
      idle = λ k v none at. grown_idle a.extensions.items e.items k v grown (λ was. keeps.idle k v (sym (read k) ∙ none) was) at;
      covered = (let as_long = ap length same in let longer = grown_longer a.extensions.items e.items grown in let kept = keeps.covered in omega arith);
      room = (let kept = keeps.room in omega arith);
      reached = (let longer = grown_longer a.extensions.items e.items grown in let kept = keeps.reached in omega arith);
    }

pub kept_grown : (a : Inside) (r : Slab SpanRecord) (e : Vec ExtensionMap Global)
    → KeepsSpans a → r.slots ≡ a.records.slots → GrowsEmpty a.extensions.items e.items → kept_of (record a { records = r; extensions = e }) ≡ kept_of a
kept_grown a r e keeps same grown =
    let records = found_same (under a.records) (under r) a.slots.keys (λ q k at. ap (λ (l : List (Option SpanRecord)). slice_index_or l k None) same) in
    let extensions = found_same (slice_get a.extensions.items)
    (slice_get e.items) a.slots.keys (λ q k at. grown_kept a.extensions.items e.items k grown (keeps.extended q k at)) in
    λ i. record (kept_of a) { records = records i; extensions = extensions i }

-- memory is held for more spans, and nothing else changes
pub reserves : (a : Inside) (s : KeptSpans) (slots : SlotState) (r : Slab SpanRecord) (e : Vec ExtensionMap Global) (count : ℕ)
    → KeepsSpans a → kept_of a ≡ s → r.slots ≡ a.records.slots → a.records.capacity ≤ r.capacity → GrowsEmpty a.extensions.items e.items
    → slots ≡ record a.slots { reserved = max a.slots.reserved count } → count ≤ r.capacity → count ≤ length e.items
    → KeepsSpans (record { slots = slots; records = r; extensions = e })
    × (kept_of (record { slots = slots; records = r; extensions = e }) ≡ record s { reserved = max s.reserved count })
reserves a s slots r e count keeps view_is same more grown is held reached =
    let kept : KeepsSpans (record a { records = r; extensions = e }) = keeps_grown a r e keeps same more grown in
    let new : Inside = record { slots = record a.slots { reserved = max a.slots.reserved count }; records = r; extensions = e } in
    let keeps_new : KeepsSpans new = record {
      recorded = kept.recorded;
      extended = kept.extended;
      apart = kept.apart;
      all = kept.all;
      idle = kept.idle;
      covered = kept.covered;
      room = (let before = kept.room in omega arith);
      reached = (let before = kept.reached in omega arith);
    } in (
      subst (λ (t : SlotState). KeepsSpans (record { slots = t; records = r; extensions = e })) (sym is) keeps_new,
      ap (λ (t : SlotState). kept_of (record { slots = t; records = r; extensions = e })) is
          ∙ ap (λ (t : KeptSpans). record t { reserved = max a.slots.reserved count }) (kept_grown a r e keeps same grown)
          ∙ ap (λ (t : KeptSpans). record t { reserved = max t.reserved count }) view_is,
    )

-- memory is held for no span more where there are as many as were reserved
pub none_reserved : (a : Inside) (s : KeptSpans) → KeepsSpans a → kept_of a ≡ s → a.slots.reserved ≤ len a.slots.keys + a.slots.retired → HasNoneReserved s
none_reserved a s keeps view_is most = subst HasNoneReserved view_is (
    let many = len-found (under a.records) a.slots.keys keeps.recorded in
    let out : a.slots.reserved ≤ len (found (under a.records) a.slots.keys) + a.slots.retired = omega arith in
    out
    )

-- a number of which something is found after one was put in is this one, or was there
put_in : (m : FinMap nat_cmp ℕ) (x key y k : ℕ) → get (insert m x key) y ≡ Some k → ((x ≡ y) × (k ≡ key)) ⊎ ((x ≢ y) × (get m y ≡ Some k))
put_in m x key y k is =
    elim (cases_eq x y) [
      | inl same ↦ inl (same, same_Some k key (sym is ∙ ap (get (insert m x key)) (sym same) ∙ get_inserted m x key))
      | inr differs ↦ inr (differs, sym (get_beside_inserted m x y key differs) ∙ is)
    ]

-- what is found after one was taken out was there
taken_out : (m : FinMap nat_cmp ℕ) (x y k : ℕ) → get (remove m x) y ≡ Some k → (x ≢ y) × (get m y ≡ Some k)
taken_out m x y k is =
    elim (cases_eq x y) [
      | inl same ↦ absurd (true≢false (sym (ap (λ (o : Option ℕ). is_some o) is)
          ∙ ap (λ (z : ℕ). is_some (get (remove m x) z)) (sym same) ∙ ap (λ (o : Option ℕ). is_some o) (get_removed m x)))
      | inr differs ↦ (differs, sym (get_beside_removed m x y differs) ∙ is)
    ]

module _ (a : Inside) (keeps : KeepsSpans a) (x key : ℕ) (span : SpanRecord) (r : Slab SpanRecord) (updates : Updates a.records r key (Some span))
    (vacant : under a.records key ≡ None) (room : key < length a.extensions.items) (unused : get a.slots.keys x ≡ None) (longer : slab_len r
    ≡ slab_len a.records + 1) (few : length r.slots ≤ max (length a.records.slots) (key + 1)) (capacity : r.capacity ≡ a.records.capacity) where
  fresh_key : (y k : ℕ) → get a.slots.keys y ≡ Some k → k ≢ key
  fresh_key y k at same =
      true≢false (sym (keeps.recorded y k at) ∙ ap (λ (j : ℕ). is_some (under a.records j)) same ∙ ap (λ (o : Option SpanRecord). is_some o) vacant)

  abbrev with_span : Inside
  with_span = record a { slots = record a.slots { keys = insert a.slots.keys x key; issued = add a.slots.issued x }; records = r }

  keeps_span : KeepsSpans with_span
  keeps_span =
      record {
        recorded = λ y k at. elim (put_in a.slots.keys x key y k at) [
          | inl new ↦ ap (λ (j : ℕ). is_some (under r j)) new.1 ∙ ap (λ (o : Option SpanRecord). is_some o) updates.changed
          | inr old ↦ ap (λ (o : Option SpanRecord). is_some o) (updates.others k (fresh_key y k old.1)) ∙ keeps.recorded y k old.1
        ];
        extended = λ y k at. elim (put_in a.slots.keys x key y k at) [
          | inl new ↦ ap (λ (j : ℕ). is_some (slice_get a.extensions.items j)) new.1 ∙ stands a.extensions.items key room
          | inr old ↦ keeps.extended y k old.1
        ];
        apart = λ y z k at also. elim (put_in a.slots.keys x key y k at) [
          | inl new ↦ elim (put_in a.slots.keys x key z k also) [
            | inl too ↦ sym new.0 ∙ too.0
            | inr old ↦ absurd (fresh_key z k old.1 new.1)
          ]
          | inr old ↦ elim (put_in a.slots.keys x key z k also) [
            | inl new ↦ absurd (fresh_key y k old.1 new.1)
            | inr too ↦ keeps.apart y z k old.1 too.1
          ]
        ];
        all = longer ∙ ap (λ (n : ℕ). n + 1) keeps.all ∙ sym (len_put a.slots.keys x key unused);
        idle = λ k v none at.
            let beside : k ≢ key = λ same. true≢false (sym (ap (λ (o : Option SpanRecord). is_some o) updates.changed)
            ∙ ap (λ (j : ℕ). is_some (under r j)) (sym same) ∙ ap (λ (o : Option SpanRecord). is_some o) none) in
            keeps.idle k v (sym (updates.others k beside) ∙ none) at;
        covered = (let kept = keeps.covered in omega arith);
        room = (let kept = keeps.room in omega arith);
        reached = keeps.reached;
      }

  no_value : (o : Option ExtensionMap) → slice_get a.extensions.items key ≡ o → IsSome o → o ≡ Some no_values
  no_value None at there = absurd (true≢false (sym there))
  no_value (Some e) at there = ap Some (keeps.idle key e vacant at)

  kept_span : kept_of with_span ≡ record (kept_of a)
      { records = insert (kept_of a).records x span; extensions = insert (kept_of a).extensions x no_values; issued = add a.slots.issued x }
  kept_span =
      let records =
      found_inserted (under a.records) (under r) a.slots.keys x key span updates.changed (λ q k differs at. updates.others k (fresh_key q k at)) in
      let extensions = found_inserted (slice_get a.extensions.items) (slice_get a.extensions.items)
      a.slots.keys x key no_values (no_value (slice_get a.extensions.items key) refl (stands a.extensions.items key room)) (λ q k differs at. refl) in
      λ i. record {
        records = records i;
        extensions = extensions i;
        issued = add a.slots.issued x;
        retired = a.slots.retired;
        reserved = a.slots.reserved;
        limits = a.slots.limits;
      }

-- a span that is put in under a vacant key, once there is room for its record and its extensions
pub puts_in : (a : Inside) (s : KeptSpans) (id : Id) (key : ℕ) (span : SpanRecord) (slots : SlotState) (b r : Slab SpanRecord) (e : Vec ExtensionMap Global)
    → KeepsSpans a → kept_of a ≡ s → b.slots ≡ a.records.slots → a.records.capacity ≤ b.capacity
    → GrowsEmpty a.extensions.items e.items → key < length e.items → under b key ≡ None → Updates b r key (Some span) → slab_len r ≡ slab_len b + 1
    → length r.slots ≤ max (length b.slots) (key + 1) → r.capacity ≡ b.capacity → TakesSlot key id a.slots slots
    → KeepsSpans (record { slots = slots; records = r; extensions = e }) × Inserts id span s (kept_of (record { slots = slots; records = r; extensions = e }))
puts_in a s id key span slots b r e keeps view_is same more grown room vacant updates longer few capacity taken =
    let roomy : Inside = record a { records = b; extensions = e } in
    let kept : KeepsSpans roomy = keeps_grown a b e keeps same more grown in
    let x = number_of id in
    let before : kept_of roomy ≡ s = kept_grown a b e keeps same grown ∙ view_is in
    let new : Inside = with_span roomy kept x key span r updates vacant room taken.unused longer few capacity in
    let inserts : Inserts id span (kept_of roomy) (kept_of new) = record {
      fresh = taken.fresh;
      other = taken.other;
      unused = get-found (under b) a.slots.keys x ∙ ap (option_and_then (under b)) taken.unused;
      state = kept_span roomy kept x key span r updates vacant room taken.unused longer few capacity;
    } in (
      subst (λ (t : SlotState). KeepsSpans (record { slots = t; records = r; extensions = e }))
          (sym taken.state) (keeps_span roomy kept x key span r updates vacant room taken.unused longer few capacity),
      subst (λ (t : SlotState). Inserts id span s (kept_of (record { slots = t; records = r; extensions = e })))
          (sym taken.state) (subst (λ (o : KeptSpans). Inserts id span o (kept_of new)) before inserts),
    )

module _ (a : Inside) (keeps : KeepsSpans a)
    (x key : ℕ) (has : get a.slots.keys x ≡ Some key) (s : SlotState) (given : s.keys ≡ remove a.slots.keys x) (still : s.reserved ≡ a.slots.reserved)
    (r : Slab SpanRecord) (updates : Updates a.records r key None) (e : Vec ExtensionMap Global) (is : e.items ≡ slice_set a.extensions.items key no_values)
    (shorter : slab_len r + 1 ≡ slab_len a.records) (slots : r.slots ≡ slice_set a.records.slots key None) (capacity : r.capacity ≡ a.records.capacity) where
  abbrev pub without_span : Inside
  without_span = record { slots = s; records = r; extensions = e }

  was_there : (y k : ℕ) → get s.keys y ≡ Some k → (x ≢ y) × (get a.slots.keys y ≡ Some k)
  was_there y k at = taken_out a.slots.keys x y k (ap (λ (m : FinMap nat_cmp ℕ). get m y) (sym given) ∙ at)

  beside_key : (y k : ℕ) → get s.keys y ≡ Some k → k ≢ key
  beside_key y k at = let was = was_there y k at in other_key a x y key k keeps has was.0 was.1

  pub keeps_rest : KeepsSpans without_span
  keeps_rest =
      record {
        recorded = λ y k at. ap (λ (o : Option SpanRecord). is_some o) (updates.others k (beside_key y k at)) ∙ keeps.recorded y k (was_there y k at).1;
        extended = λ y k at.
            ap (λ (l : List ExtensionMap). is_some (slice_get l k)) is ∙ set_there a.extensions.items key k no_values (keeps.extended y k (was_there y k at).1);
        apart = λ y z k at also. keeps.apart y z k (was_there y k at).1 (was_there z k also).1;
        all = (let kept = keeps.all in
            let gone = len_gone a.slots.keys x key has in let same : len s.keys ≡ len (remove a.slots.keys x) = ap len given in omega arith);
        idle = λ k v none at.
            let read = ap (λ (l : List ExtensionMap). slice_get l k) (sym is) ∙ at in
            elim (cases_eq k key) [
              | inl same ↦ same_Some v no_values (sym read ∙ ap (λ (j : ℕ). slice_get (slice_set a.extensions.items key no_values) j) same
                  ∙ get-set_here a.extensions.items key no_values (keeps.extended x key has))
              | inr differs ↦ keeps.idle k v (sym (updates.others k differs) ∙ none) (sym (get-set_beside a.extensions.items key k no_values differs) ∙ read)
            ];
        covered = (let long = ap length is in let set = length-set a.extensions.items key no_values in
            let wide = ap length slots in let put = length-set a.records.slots key None in let kept = keeps.covered in omega arith);
        room = (let kept = keeps.room in omega arith);
        reached = (let long = ap length is in let set = length-set a.extensions.items key no_values in let kept = keeps.reached in omega arith);
      }

  pub records_rest : (kept_of without_span).records ≡ remove (kept_of a).records x
  records_rest = ap (found (under r)) given
      ∙ found_removed (under a.records) (under r) a.slots.keys x (λ q k differs at. updates.others k (other_key a x q key k keeps has differs at))

  pub extensions_rest : (kept_of without_span).extensions ≡ remove (kept_of a).extensions x
  extensions_rest = ap (found (slice_get e.items)) given ∙ found_removed (slice_get a.extensions.items) (slice_get e.items) a.slots.keys x (λ q k differs at.
      ap (λ (l : List ExtensionMap). slice_get l k) is ∙ get-set_beside a.extensions.items key k no_values (other_key a x q key k keeps has differs at))
