-- A `BTreeMap` of std by numbers, seen as a finite map: what its calls say of that map.
use Rattle.std.specs.Prelude.{◌≡◌, ℕ, ◌+◌, List, [], ◌∷◌, Option, None, Some, Bool, true, false, cond, length, IsSome, is_some}
use Rattle.std.specs.Option.{OnSome, option_copied_mut}
use Rattle.std.specs.Borrow.{MutBor}
use Rattle.std.specs.Ordering.{nat_cmp, eq_by_cmp, is_eq}
use Rattle.std.specs.Cmp.{nat_cmp_total, eq_by_cmp_equiv}
use Rattle.std.specs.FinMap.{FinMap, get, insert, remove, len, from_entries, find, get-from_entries, get-insert, get-remove, len-insert, len-empty, same_map}
use Rattle.std.specs.FinMap.{nat_cmp-IsAntisymmetric}
use Rattle.std.specs.BTreeMap as tree
use Rattle.std.specs.Map.{lookup, keys_of}
use Rattle.std.specs.List.{AllByRecursion}
use Rattle.std.specs.List.Sorted.{IsStrictlySortedBy}
use Rattle.std.specs.declared.cmp.Ordering.{Ordering}
use Rattle.std.specs.declared.cmp.Ordering.TheVariants.{Less, Equal, Greater}
use Rattle.std.proofs.Common.{refl, sym, ap, subst, ◌∙◌, add-one}

find-lookup : {X : Type 0} (q : ℕ) (es : List (ℕ × X)) → find nat_cmp q es ≡ lookup (tree.is_at (nat_cmp q)) es
find-lookup q [] = refl
find-lookup q (e ∷ es) = ap (cond (eq_by_cmp nat_cmp q e.0) (Some e.1)) (find-lookup q es)

-- the map of these entries has at a key what a search in them finds
pub get-of_entries : {X : Type 0} (es : List (ℕ × X)) (q : ℕ) → get (from_entries {R = nat_cmp} es) q ≡ lookup (tree.is_at (nat_cmp q)) es
get-of_entries es q = get-from_entries nat_cmp_total es q ∙ find-lookup q es

-- a key that was given a value is inserted
pub inserted : {X : Type 0} (m n : tree.BTreeMap ℕ X) (k : ℕ) (v : X)
    → tree.Updates nat_cmp m n k (Some v) → from_entries {R = nat_cmp} n.entries ≡ insert (from_entries m.entries) k v
inserted m n k v u = same_map nat_cmp_total nat_cmp-IsAntisymmetric _ _ (λ q.
    get-of_entries n.entries q ∙ u.0 q
    ∙ ap (λ b. cond b (Some v) (tree.get nat_cmp m q)) ((eq_by_cmp_equiv nat_cmp_total).symm k q)
    ∙ sym (get-insert nat_cmp_total (from_entries m.entries) k v q ∙ ap (cond (eq_by_cmp nat_cmp q k) (Some v)) (get-of_entries m.entries q)))

-- a key that was taken out is removed
pub removed : {X : Type 0} (m n : tree.BTreeMap ℕ X) (k : ℕ)
    → tree.Updates nat_cmp m n k None → from_entries {R = nat_cmp} n.entries ≡ remove (from_entries m.entries) k
removed m n k u = same_map nat_cmp_total nat_cmp-IsAntisymmetric _ _ (λ q.
    get-of_entries n.entries q ∙ u.0 q
    ∙ ap (λ b. cond b None (tree.get nat_cmp m q)) ((eq_by_cmp_equiv nat_cmp_total).symm k q)
    ∙ sym (get-remove nat_cmp_total (from_entries m.entries) k q ∙ ap (cond (eq_by_cmp nat_cmp q k) None) (get-of_entries m.entries q)))

-- what is written through a lent value is inserted
pub written : {X : Type 0} (r : Option (MutBor X)) (m n : tree.BTreeMap ℕ X) (k : ℕ) (w : X) → option_copied_mut r ≡ tree.get_by (nat_cmp k) m
    → tree.WritesThrough nat_cmp (nat_cmp k) m w n → OnSome r (from_entries {R = nat_cmp} n.entries ≡ insert (from_entries m.entries) k w)
written None m n k w e h = tt
written (Some b) m n k w e h = inserted m n k w (h.3 (subst (λ o. IsSome o) e refl))

below_absent : {X : Type 0} (k : ℕ) (es : List (ℕ × X)) → AllByRecursion (λ y. nat_cmp k y ≡ Less) (keys_of es) → find nat_cmp k es ≡ None
below_absent k [] h = refl
below_absent k (e ∷ es) h = rw h.0 (below_absent k es h.1)

-- as many keys as entries, where the keys ascend
pub len-of_entries : {X : Type 0} (es : List (ℕ × X)) → IsStrictlySortedBy nat_cmp (keys_of es) → len (from_entries {R = nat_cmp} es) ≡ length es
unfolding IsStrictlySortedBy
len-of_entries [] h = len-empty nat_cmp _
len-of_entries (e ∷ es) h =
    len-insert nat_cmp_total (from_entries es) e.0 e.1
    ∙ ap (λ o. cond (is_some o) (len (from_entries {R = nat_cmp} es)) (len (from_entries {R = nat_cmp} es) + 1))
    (get-from_entries nat_cmp_total es e.0 ∙ below_absent e.0 es h.0)
    ∙ ap (λ n. n + 1) (len-of_entries es h.1) ∙ add-one (length es)

equal : (o : Ordering) → is_eq o ≡ true → o ≡ Equal
equal Less e = cc
equal Equal e = refl
equal Greater e = cc

itself : (k : ℕ) → eq_by_cmp nat_cmp k k ≡ true
itself k = (eq_by_cmp_equiv nat_cmp_total).refl k

differs : (q k : ℕ) (b : Bool) → eq_by_cmp nat_cmp q k ≡ b → (k ≡ q → ⊥) → b ≡ false
differs q k true e apart = absurd (apart (sym (nat_cmp-IsAntisymmetric q k (equal (nat_cmp q k) e))))
differs q k false e apart = refl

-- an inserted value is found, and a removed one isn't
pub get_inserted : {X : Type 0} (m : FinMap nat_cmp X) (k : ℕ) (v : X) → get (insert m k v) k ≡ Some v
get_inserted m k v = get-insert nat_cmp_total m k v k ∙ ap (λ b. cond b (Some v) (get m k)) (itself k)

pub get_removed : {X : Type 0} (m : FinMap nat_cmp X) (k : ℕ) → get (remove m k) k ≡ None
get_removed m k = get-remove nat_cmp_total m k k ∙ ap (λ b. cond b None (get m k)) (itself k)

-- at every other key both leave what was there
pub get_beside_inserted : {X : Type 0} (m : FinMap nat_cmp X) (k q : ℕ) (v : X) → (k ≡ q → ⊥) → get (insert m k v) q ≡ get m q
get_beside_inserted m k q v apart = get-insert nat_cmp_total m k v q ∙ ap (λ b. cond b (Some v) (get m q)) (differs q k (eq_by_cmp nat_cmp q k) refl apart)

pub get_beside_removed : {X : Type 0} (m : FinMap nat_cmp X) (k q : ℕ) → (k ≡ q → ⊥) → get (remove m k) q ≡ get m q
get_beside_removed m k q apart = get-remove nat_cmp_total m k q ∙ ap (λ b. cond b None (get m q)) (differs q k (eq_by_cmp nat_cmp q k) refl apart)
