-- The entries of a finite map by numbers, as a list that is searched and summed.
use Rattle.std.proofs.Common.{◌≡◌, ℕ, ◌+◌, List, [], ◌∷◌, length, Option, Some, None, Bool, true, false, cond, ◌&&◌, T, refl, sym, ap, ◌∙◌, arith, inl, inr}
use Rattle.std.proofs.lemmas.Bool.{cases_eq}
use Rattle.std.proofs.lemmas.Map.Entries.{sum_by-insert_entry}
use Rattle.std.specs.BTreeMap.{insert_entry, is_at}
use Rattle.std.specs.Cmp.{nat_cmp_total}
use Rattle.std.specs.FinMap.Entries.{below_all, by_order}
use Rattle.std.specs.FinMap.{FinMap, empty, entries, entries-insert, entries_sorted, find, get, get-entries, insert, is_sorted, len-empty, len-entries}
use Rattle.std.specs.FinMap.{nat_cmp-IsAntisymmetric, put, remove, same_map}
use Rattle.std.specs.List.Sorted.{IsStrictlySortedBy}
use Rattle.std.specs.List.{AllByRecursion, sum_by}
use Rattle.std.specs.Map.{keys_of, lookup, values_of}
use Rattle.std.specs.Option.{option_map, unwrap_or}
use Rattle.std.specs.Ordering.{eq_by_cmp, is_lt, match_ordering, nat_cmp}
use Rattle.std.specs.declared.cmp.Ordering.TheVariants.{Equal, Greater, Less}
use Rattle.std.specs.declared.cmp.Ordering.{Ordering}
use Rattle.span_extensions.proofs.NumberMaps.{get_beside_inserted, get_beside_removed, get_inserted, get_removed}

-- ---- in order

less : (o : Ordering) → T (is_lt o) → o ≡ Less
less Less h = refl
less Equal h = absurd h
less Greater h = absurd h

first : (a b : Bool) → T (a && b) → T a
first true b h = tt
first false b h = h

second : (a b : Bool) → T (a && b) → T b
second true b h = h
second false b h = absurd h

below : {X : Type 0} (k : ℕ) (es : List (ℕ × X)) → T (below_all nat_cmp k es) → AllByRecursion (λ y. nat_cmp k y ≡ Less) (keys_of es)
below k [] h = tt
below k (e ∷ es) h = (less (nat_cmp k e.0) (first _ _ h), below k es (second _ _ h))

ordered_list : {X : Type 0} (es : List (ℕ × X)) → T (is_sorted nat_cmp es) → IsStrictlySortedBy nat_cmp (keys_of es)
unfolding IsStrictlySortedBy
ordered_list [] h = tt
ordered_list (e ∷ es) h = (below e.0 es (first _ _ h), ordered_list es (second _ _ h))

pub ordered : {X : Type 0} (m : FinMap nat_cmp X) → IsStrictlySortedBy nat_cmp (keys_of (entries m))
ordered m = ordered_list (entries m) (entries_sorted m)

-- ---- found

found : {X : Type 0} (q : ℕ) (es : List (ℕ × X)) → find nat_cmp q es ≡ lookup (is_at (nat_cmp q)) es
found q [] = refl
found q (e ∷ es) = ap (cond (eq_by_cmp nat_cmp q e.0) (Some e.1)) (found q es)

-- a search in the entries finds what the map has
pub at_is : {X : Type 0} (m : FinMap nat_cmp X) (q : ℕ) → lookup (is_at (nat_cmp q)) (entries m) ≡ get m q
at_is m q = sym (found q (entries m)) ∙ sym (get-entries m q)

no_entries : {X : Type 0} (es : List (ℕ × X)) → length es ≡ 0 → es ≡ []
no_entries [] e = refl
no_entries (x ∷ xs) e = absurd (omega arith)

-- the empty map has no entry
pub none : (X : Type 0) → entries (empty {X = X} {R = nat_cmp}) ≡ []
none X = no_entries (entries (empty {X = X} {R = nat_cmp})) (sym (len-entries (empty {X = X} {R = nat_cmp})) ∙ len-empty nat_cmp X)

-- ---- summed

put_is : {X : Type 0} (k : ℕ) (v : X) (es : List (ℕ × X)) → put nat_cmp k v es ≡ insert_entry nat_cmp es k v
put_is k v [] = refl
put_is k v (e ∷ es) =
    elim (nat_cmp k e.0) as (λ o. by_order o ((k, v) ∷ e ∷ es) ((e.0, v) ∷ es) (e ∷ put nat_cmp k v es)
    ≡ match_ordering o ((k, v) ∷ e ∷ es) ((e.0, v) ∷ es) (e ∷ insert_entry nat_cmp es k v)) [
      | Less ↦ refl
      | Equal ↦ refl
      | Greater ↦ ap (λ l. e ∷ l) (put_is k v es)
    ]

-- the map with a key taken out and put back
pub put_back : {X : Type 0} (m : FinMap nat_cmp X) (k : ℕ) (v : X) → get m k ≡ Some v → insert (remove m k) k v ≡ m
put_back m k v h = same_map nat_cmp_total nat_cmp-IsAntisymmetric _ _ (λ q. elim (cases_eq q k) [
  | inl e ↦ ap (get (insert (remove m k) k v)) e ∙ get_inserted (remove m k) k v ∙ sym h ∙ sym (ap (get m) e)
  | inr ne ↦ get_beside_inserted (remove m k) k q v (λ e. ne (sym e)) ∙ get_beside_removed m k q (λ e. ne (sym e))
])

put_over : {X : Type 0} (m : FinMap nat_cmp X) (k : ℕ) (w : X) → insert (remove m k) k w ≡ insert m k w
put_over m k w = same_map nat_cmp_total nat_cmp-IsAntisymmetric _ _ (λ q. elim (cases_eq q k) [
  | inl e ↦ ap (get (insert (remove m k) k w)) e ∙ get_inserted (remove m k) k w ∙ sym (get_inserted m k w) ∙ sym (ap (get (insert m k w)) e)
  | inr ne ↦ get_beside_inserted (remove m k) k q w (λ e. ne (sym e))
      ∙ get_beside_removed m k q (λ e. ne (sym e)) ∙ sym (get_beside_inserted m k q w (λ e. ne (sym e)))
])

module _ {X : Type 0} (f : X → ℕ) where
  -- what the values weigh together
  abbrev pub total : FinMap nat_cmp X → ℕ
  total m = sum_by f (values_of (entries m))

  pub total_added : (m : FinMap nat_cmp X) (k : ℕ) (v : X) → get m k ≡ None → total (insert m k v) ≡ total m + f v
  total_added m k v h =
      let es = entries m in
      let s = sum_by-insert_entry f nat_cmp_total es k v (ordered m) in
      let n : unwrap_or (option_map f (lookup (is_at (nat_cmp k)) es)) 0 ≡ 0 = ap (λ (o : Option X). unwrap_or (option_map f o) 0) (at_is m k ∙ h) in
      let t : total (insert m k v) ≡ sum_by f (values_of (insert_entry nat_cmp es k v)) =
      ap (λ (l : List (ℕ × X)). sum_by f (values_of l)) (entries-insert nat_cmp_total m k v ∙ put_is k v es) in
      omega arith

  pub total_removed : (m : FinMap nat_cmp X) (k : ℕ) (v : X) → get m k ≡ Some v → total (remove m k) + f v ≡ total m
  total_removed m k v h =
      let a = total_added (remove m k) k v (get_removed m k) in
      let b : total (insert (remove m k) k v) ≡ total m = ap total (put_back m k v h) in
      omega arith

  pub total_set : (m : FinMap nat_cmp X) (k : ℕ) (v w : X) → get m k ≡ Some v → f w ≡ f v → total (insert m k w) ≡ total m
  total_set m k v w h same =
      let a = total_added (remove m k) k w (get_removed m k) in
      let b : total (insert (remove m k) k w) ≡ total (insert m k w) = ap total (put_over m k w) in
      let c = total_removed m k v h in
      omega arith
