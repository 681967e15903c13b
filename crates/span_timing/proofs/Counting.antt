-- Times counted in buckets.
use Rattle.std.proofs.Common.{arith, ◌≡◌, ◌+◌, ℕ, List, [], ◌∷◌, Option, None, Some, ap, cond, refl, sym, unwrap_or}
use Rattle.std.specs.BTreeMap.{insert_entry, is_at}
use Rattle.std.specs.List.{sum_by}
use Rattle.std.specs.List.Sorted.{IsStrictlySortedBy}
use Rattle.std.specs.Map.{keys_of, lookup}
use Rattle.std.specs.Option.{option_map}
use Rattle.std.specs.Ordering.{is_eq, match_ordering, nat_cmp}
use Rattle.std.specs.declared.cmp.Ordering.{Ordering}
use Rattle.std.specs.declared.cmp.Ordering.TheVariants.{Equal, Greater, Less}
use Rattle.std.proofs.lemmas.Bool.Decides.{nat_tests}
use Rattle.std.proofs.lemmas.Cmp.{nat_cmp_total}
use Rattle.std.proofs.lemmas.List.Sums.{sum_by-cons}
use Rattle.std.proofs.lemmas.Map.{lookup-none}
use Rattle.std.proofs.lemmas.Map.Entries.{none_below_head}
use Rattle.std.proofs.lemmas.Map.Keys.{sorted_tail}

module _ (w : ℕ → ℕ → ℕ) where
  -- entries, each weighed
  abbrev pub weight : List (ℕ × ℕ) → ℕ
  weight es = sum_by (λ e. w e.0 e.1) es

  -- what a look-up weighs
  abbrev pub found_weight : ℕ → Option ℕ → ℕ
  found_weight k found = unwrap_or (option_map (w k) found) 0

  weight_one : (e : ℕ × ℕ) (es : List (ℕ × ℕ)) → weight (e ∷ es) ≡ w e.0 e.1 + weight es
  weight_one e es = sum_by-cons (λ (x : ℕ × ℕ). w x.0 x.1) e es

  one : (o : Ordering) (k v : ℕ) (e : ℕ × ℕ) (es more : List (ℕ × ℕ)) (later : Option ℕ)
      → (o ≡ Less → later ≡ None) → (o ≡ Equal → k ≡ e.0)
      → weight more + found_weight k later ≡ weight es + w k v
      → weight (match_ordering o ((k, v) ∷ e ∷ es) ((e.0, v) ∷ es) (e ∷ more)) + found_weight k (cond (is_eq o) (Some e.1) later)
      ≡ weight (e ∷ es) + w k v
  one Less k v e es more later none same rest =
      let first = weight_one (k, v) (e ∷ es) in
      let nothing : found_weight k later ≡ 0 = ap (found_weight k) (none refl) in
      omega arith
  one Equal k v e es more later none same rest =
      let key = same refl in
      let before = weight_one e es in
      let after = weight_one (e.0, v) es in
      let new : w e.0 v ≡ w k v = ap (λ n. w n v) (sym key) in
      let old : w k e.1 ≡ w e.0 e.1 = ap (λ n. w n e.1) key in
      omega arith
  one Greater k v e es more later none same rest =
      let before = weight_one e es in
      let after = weight_one e more in
      omega arith

  -- an entry that is put in the place of that with its key adds what it weighs more
  pub put_weight : (k v : ℕ) (es : List (ℕ × ℕ)) → IsStrictlySortedBy nat_cmp (keys_of es)
      → weight (insert_entry nat_cmp es k v) + found_weight k (lookup (is_at (nat_cmp k)) es) ≡ weight es + w k v
  put_weight k v [] sorted = let first = weight_one (k, v) [] in omega arith
  put_weight k v (e ∷ es) sorted =
      let later = lookup (is_at (nat_cmp k)) es in
      let past : nat_cmp k e.0 ≡ Less → later ≡ None =
      λ less. lookup-none (is_at (nat_cmp k)) es ((none_below_head nat_cmp_total k e es sorted less).1) in
      let same : nat_cmp k e.0 ≡ Equal → k ≡ e.0 = λ equal. equal_keys k e.0 equal in
      one (nat_cmp k e.0) k v e es (insert_entry nat_cmp es k v) later past same
      (put_weight k v es (sorted_tail nat_cmp e.0 (keys_of es) sorted))
    where
      equal_keys : (a b : ℕ) → nat_cmp a b ≡ Equal → a ≡ b
      equal_keys a b h = grind (arith, nat_tests)
