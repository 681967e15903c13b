-- Bands of lanes, one below the other.
use Rattle.std.proofs.Common.{◌≡◌, ◌∙◌, ◌<◌, ◌≤◌, ◌+◌, ◌*◌, ◌^◌, ⊎_elim, ℕ, true, false, List, [], ◌∷◌, ◌++◌}
use Rattle.std.proofs.Common.{None, Some, ap, arith, is_some, refl, sym, unwrap_or}
use Rattle.std.specs.BTreeMap.{insert_entry, is_at}
use Rattle.std.specs.List.{AllByRecursion}
use Rattle.std.specs.List.Sorted.{IsStrictlySortedBy}
use Rattle.std.specs.Map.{keys_of, lookup}
use Rattle.std.specs.Ordering.{match_ordering, nat_cmp}
use Rattle.std.specs.declared.cmp.Ordering.TheVariants.{Greater, Less}
use Rattle.std.proofs.lemmas.Bool.{cases_eq}
use Rattle.std.proofs.lemmas.Grind.{common_steps}
use Rattle.std.proofs.lemmas.Map.Entries.{lookup_head, lookup_tail}
use Rattle.std.proofs.lemmas.Map.Keys.{sorted_head, sorted_tail}
use Rattle.span_export.specs.private.Plan.{below, end_from, tops_from}

-- numbers as keys
at_same : (a b : ℕ) → a ≡ b → is_at (nat_cmp a) b ≡ true
at_same a b e = grind (arith, common_steps)

at_other : (a b : ℕ) → (a ≡ b → ⊥) → is_at (nat_cmp a) b ≡ false
at_other a b ne = grind (arith, common_steps)

above : (a b : ℕ) → nat_cmp a b ≡ Less → a < b
above a b e = grind (arith, common_steps)

behind : (a b : ℕ) → nat_cmp a b ≡ Less → nat_cmp b a ≡ Greater
behind a b e = grind (arith, common_steps)

-- the keys stay
pub keys-tops_from : (top : ℕ) (es : List (ℕ × ℕ)) → keys_of (tops_from top es) ≡ keys_of es
keys-tops_from top [] = refl
keys-tops_from top (e ∷ es) = ap (λ ks. e.0 ∷ ks) (keys-tops_from (below top e.1) es)

key_within : (P : ℕ → Type 0) (xs : List (ℕ × ℕ)) (k v : ℕ) (ys : List (ℕ × ℕ)) → AllByRecursion P (keys_of (xs ++ (k, v) ∷ ys)) → P k
key_within P [] k v ys all = all.0
key_within P (x ∷ xs) k v ys all = key_within P xs k v ys all.1

put_last : (x : ℕ × ℕ) (xs : List (ℕ × ℕ)) (k v : ℕ) → nat_cmp x.0 k ≡ Less → insert_entry nat_cmp xs k v ≡ xs ++ (k, v) ∷ []
    → insert_entry nat_cmp (x ∷ xs) k v ≡ x ∷ xs ++ (k, v) ∷ []
put_last x xs k v less rest =
    ap (λ o. match_ordering o ((k, v) ∷ x ∷ xs) ((x.0, v) ∷ xs) (x ∷ insert_entry nat_cmp xs k v)) (behind x.0 k less) ∙ ap (λ es. x ∷ es) rest

-- a key above all others is put last
pub inserted_last : (xs : List (ℕ × ℕ)) (k v : ℕ) (ys : List (ℕ × ℕ))
    → IsStrictlySortedBy nat_cmp (keys_of (xs ++ (k, v) ∷ ys)) → insert_entry nat_cmp xs k v ≡ xs ++ (k, v) ∷ []
inserted_last [] k v ys sorted = refl
inserted_last (x ∷ xs) k v ys sorted =
    let rest = keys_of (xs ++ (k, v) ∷ ys) in
    put_last x xs k v (key_within (λ y. nat_cmp x.0 y ≡ Less) xs k v ys (sorted_head nat_cmp x.0 rest sorted))
    (inserted_last xs k v ys (sorted_tail nat_cmp x.0 rest sorted))

-- the keys rise from this number on
abbrev pub Rising : ℕ → List (ℕ × ℕ) → Type 0
Rising k [] = Unit {0}
Rising k (e ∷ es) = (k ≤ e.0) × Rising (e.0 + 1) es

past : (k : ℕ) (es : List (ℕ × ℕ)) → AllByRecursion (λ y. nat_cmp k y ≡ Less) (keys_of es) → AllByRecursion (λ y. k + 1 ≤ y) (keys_of es)
past k [] all = tt
past k (e ∷ es) all = ((let less = above k e.0 all.0 in omega arith), past k es all.1)

rising : (k : ℕ) (es : List (ℕ × ℕ)) → IsStrictlySortedBy nat_cmp (keys_of es) → AllByRecursion (λ y. k ≤ y) (keys_of es) → Rising k es
rising k [] sorted from = tt
rising k (e ∷ es) sorted from =
    (from.0, rising (e.0 + 1) es (sorted_tail nat_cmp e.0 (keys_of es) sorted) (past e.0 es (sorted_head nat_cmp e.0 (keys_of es) sorted)))

from_nothing : (ks : List ℕ) → AllByRecursion (λ y. 0 ≤ y) ks
from_nothing [] = tt
from_nothing (k ∷ ks) = (omega arith, from_nothing ks)

-- no key is below the first
none_before : (a k : ℕ) (es : List (ℕ × ℕ)) → Rising k es → a < k → lookup (is_at (nat_cmp a)) es ≡ None
none_before a k [] up less = refl
none_before a k (e ∷ es) up less =
    lookup_tail (is_at (nat_cmp a)) e es (at_other a e.0 (λ same. omega arith)) ∙ none_before a (e.0 + 1) es up.1 (omega arith)

-- the top of a lane
abbrev top : ℕ → List (ℕ × ℕ) → ℕ → ℕ
top h es a = unwrap_or (lookup (is_at (nat_cmp a)) (tops_from h es)) 0

-- lanes have tops from here on, one below the other
pub record HasTops (h : ℕ) (es : List (ℕ × ℕ)) : Type 0 where
  pub rises : h ≤ end_from h es
  pub known : (a : ℕ) → is_some (lookup (is_at (nat_cmp a)) (tops_from h es)) ≡ is_some (lookup (is_at (nat_cmp a)) es)
  pub within : (a r : ℕ) → lookup (is_at (nat_cmp a)) es ≡ Some r
      → (h ≤ unwrap_or (lookup (is_at (nat_cmp a)) (tops_from h es)) 0)
      × (unwrap_or (lookup (is_at (nat_cmp a)) (tops_from h es)) 0 + r * 24 + 24 ≤ end_from h es)
  pub apart : (a b r s : ℕ) → lookup (is_at (nat_cmp a)) es ≡ Some r → lookup (is_at (nat_cmp b)) es ≡ Some s → a < b
      → unwrap_or (lookup (is_at (nat_cmp a)) (tops_from h es)) 0 + r * 24 + 24 ≤ unwrap_or (lookup (is_at (nat_cmp b)) (tops_from h es)) 0

module _ (h : ℕ) (e : ℕ × ℕ) (es : List (ℕ × ℕ)) (fits : h + e.1 * 24 + 24 < 2 ^ 64) (up : Rising (e.0 + 1) es) (rest : HasTops (below h e.1) es) where
  lower : below h e.1 ≡ h + e.1 * 24 + 24
  lower = omega arith

  first_top : (a : ℕ) → a ≡ e.0 → lookup (is_at (nat_cmp a)) (tops_from h (e ∷ es)) ≡ Some h
  first_top a same = lookup_head (is_at (nat_cmp a)) (e.0, h) (tops_from (below h e.1) es) (at_same a e.0 same)

  later_top : (a : ℕ) → (a ≡ e.0 → ⊥) → lookup (is_at (nat_cmp a)) (tops_from h (e ∷ es)) ≡ lookup (is_at (nat_cmp a)) (tops_from (below h e.1) es)
  later_top a other = lookup_tail (is_at (nat_cmp a)) (e.0, h) (tops_from (below h e.1) es) (at_other a e.0 other)

  first_rows : (a r : ℕ) → a ≡ e.0 → lookup (is_at (nat_cmp a)) (e ∷ es) ≡ Some r → e.1 ≡ r
  first_rows a r same found = let here = lookup_head (is_at (nat_cmp a)) e es (at_same a e.0 same) in cc

  later_rows : (a r : ℕ) → (a ≡ e.0 → ⊥) → lookup (is_at (nat_cmp a)) (e ∷ es) ≡ Some r → lookup (is_at (nat_cmp a)) es ≡ Some r
  later_rows a r other found = sym (lookup_tail (is_at (nat_cmp a)) e es (at_other a e.0 other)) ∙ found

  known_more : (a : ℕ) → is_some (lookup (is_at (nat_cmp a)) (tops_from h (e ∷ es))) ≡ is_some (lookup (is_at (nat_cmp a)) (e ∷ es))
  known_more a =
      ⊎_elim (λ same. ap is_some (first_top a same) ∙ sym (ap is_some (lookup_head (is_at (nat_cmp a)) e es (at_same a e.0 same))))
      (λ other. ap is_some (later_top a other) ∙ rest.known a ∙ sym (ap is_some (lookup_tail (is_at (nat_cmp a)) e es (at_other a e.0 other))))
      (cases_eq a e.0)

  within_more : (a r : ℕ) → lookup (is_at (nat_cmp a)) (e ∷ es) ≡ Some r → (h ≤ top h (e ∷ es) a) × (top h (e ∷ es) a + r * 24 + 24 ≤ end_from h (e ∷ es))
  within_more a r found =
      ⊎_elim (λ same.
      let is : top h (e ∷ es) a ≡ h = ap (λ o. unwrap_or o 0) (first_top a same) in
      let rows = first_rows a r same found in
      let rises = rest.rises in
      let down = lower in
      (omega arith, omega arith))
      (λ other.
      let is : top h (e ∷ es) a ≡ top (below h e.1) es a = ap (λ o. unwrap_or o 0) (later_top a other) in
      let there = rest.within a r (later_rows a r other found) in
      let down = lower in
      (omega arith, omega arith))
      (cases_eq a e.0)

  apart_more : (a b r s : ℕ) → lookup (is_at (nat_cmp a)) (e ∷ es) ≡ Some r → lookup (is_at (nat_cmp b)) (e ∷ es) ≡ Some s → a < b
      → top h (e ∷ es) a + r * 24 + 24 ≤ top h (e ∷ es) b
  apart_more a b r s here there less =
      ⊎_elim (λ same.
      let other : b ≡ e.0 → ⊥ = λ too. omega arith in
      let is : top h (e ∷ es) a ≡ h = ap (λ o. unwrap_or o 0) (first_top a same) in
      let is' : top h (e ∷ es) b ≡ top (below h e.1) es b = ap (λ o. unwrap_or o 0) (later_top b other) in
      let rows = first_rows a r same here in
      let later = rest.within b s (later_rows b s other there) in
      let down = lower in
      omega arith)
      (λ other.
      let found = later_rows a r other here in
      ⊎_elim (λ same.
      let missing = none_before a (e.0 + 1) es up (omega arith) in
      cc)
      (λ other'.
      let is : top h (e ∷ es) a ≡ top (below h e.1) es a = ap (λ o. unwrap_or o 0) (later_top a other) in
      let is' : top h (e ∷ es) b ≡ top (below h e.1) es b = ap (λ o. unwrap_or o 0) (later_top b other') in
      let apart = rest.apart a b r s found (later_rows b s other' there) less in
      omega arith)
      (cases_eq b e.0))
      (cases_eq a e.0)

  one_more_lane : HasTops h (e ∷ es)
  one_more_lane = record {
    rises = let rises = rest.rises in let down = lower in omega arith;
    known = known_more;
    within = within_more;
    apart = apart_more;
  }

-- lanes that take no more room than there is have tops
module _ (on from : ℕ → ℕ) (split : (a b : ℕ) → a < b → on a + from b ≤ from a) (falls : (a b : ℕ) → a ≤ b → from b ≤ from a) where
  pub have_tops : (h k : ℕ) (es : List (ℕ × ℕ)) → Rising k es → AllByRecursion (λ e. e.1 * 24 + 24 ≤ on e.0 * 48) es
      → h + from k * 48 < 2 ^ 64 → HasTops h es
  have_tops h k [] up paid room = record {
    rises = omega arith;
    known = λ a. refl;
    within = λ a r found. cc;
    apart = λ a b r s here there less. cc;
  }
  have_tops h k (e ∷ es) up paid room =
      let part = split e.0 (e.0 + 1) (omega arith) in
      let less = falls k e.0 up.0 in
      let paid_here = paid.0 in
      let fits : h + e.1 * 24 + 24 < 2 ^ 64 = omega arith in
      one_more_lane h e es fits up.1 (have_tops (below h e.1) (e.0 + 1) es up.1 paid.1 (omega arith))

  -- the last of them ends within that room
  pub end_within : (h k : ℕ) (es : List (ℕ × ℕ)) → Rising k es → AllByRecursion (λ e. e.1 * 24 + 24 ≤ on e.0 * 48) es → end_from h es ≤ h + from k * 48
  end_within h k [] up paid = omega arith
  end_within h k (e ∷ es) up paid =
      let part = split e.0 (e.0 + 1) (omega arith) in
      let less = falls k e.0 up.0 in
      let paid_here = paid.0 in
      let rest = end_within (below h e.1) (e.0 + 1) es up.1 paid.1 in
      omega arith

-- lanes whose keys rise are found as they are
rising_later : (k : ℕ) (es : List (ℕ × ℕ)) → Rising k es → AllByRecursion (λ e. k ≤ e.0) es
rising_later k [] up = tt
rising_later k (e ∷ es) up = (up.0, later k (e.0 + 1) es (let at = up.0 in omega arith) (rising_later (e.0 + 1) es up.1))
  where
    later : (k j : ℕ) (es : List (ℕ × ℕ)) → k ≤ j → AllByRecursion (λ e. j ≤ e.0) es → AllByRecursion (λ e. k ≤ e.0) es
    later k j [] le all = tt
    later k j (e ∷ es) le all = ((let at = all.0 in omega arith), later k j es le all.1)

found_later : (e : ℕ × ℕ) (es fs : List (ℕ × ℕ)) → AllByRecursion (λ f. e.0 + 1 ≤ f.0) fs
    → AllByRecursion (λ f. lookup (is_at (nat_cmp f.0)) es ≡ Some f.1) fs → AllByRecursion (λ f. lookup (is_at (nat_cmp f.0)) (e ∷ es) ≡ Some f.1) fs
found_later e es [] up found = tt
found_later e es (f ∷ fs) up found =
    (lookup_tail (is_at (nat_cmp f.0)) e es (at_other f.0 e.0 (λ same. let past = up.0 in omega arith)) ∙ found.0, found_later e es fs up.1 found.1)

each_risen : (k : ℕ) (es : List (ℕ × ℕ)) → Rising k es → AllByRecursion (λ e. lookup (is_at (nat_cmp e.0)) es ≡ Some e.1) es
each_risen k [] up = tt
each_risen k (e ∷ es) up =
    (lookup_head (is_at (nat_cmp e.0)) e es (at_same e.0 e.0 refl), found_later e es es (rising_later (e.0 + 1) es up.1) (each_risen (e.0 + 1) es up.1))

pub rising_all : (es : List (ℕ × ℕ)) → IsStrictlySortedBy nat_cmp (keys_of es) → Rising 0 es
rising_all es sorted = rising 0 es sorted (from_nothing (keys_of es))

pub each_found : (es : List (ℕ × ℕ)) → IsStrictlySortedBy nat_cmp (keys_of es) → AllByRecursion (λ e. lookup (is_at (nat_cmp e.0)) es ≡ Some e.1) es
each_found es sorted = each_risen 0 es (rising_all es sorted)
