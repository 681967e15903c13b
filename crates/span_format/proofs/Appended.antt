-- A text that grew where it is kept.
use Rattle.std.proofs.Common.{◌≡◌, ◌∙◌, ℕ, List, [], ◌++◌, Some, Result, Ok, Err, ap, arith, string_bytes}
use Rattle.std.proofs.lemmas.Bool.Decides.{nat_tests}
use Rattle.std.specs.BTreeMap as tree
use Rattle.std.specs.Option.{option_map_or}
use Rattle.std.specs.Ordering.{nat_cmp}
use Rattle.std.specs.Prelude.{if◌then◌else◌, OnOk, String, is_ok}
use Rattle.std.specs.declared.alloc.Global.{Global}
use Rattle.span_fmt.specs.Known.{with_text}

abbrev texts : tree.BTreeMap ℕ (String Global) → ℕ → List ℕ
texts m n = option_map_or string_bytes (tree.get nat_cmp m n) []

-- at a key that has a value, the value that was written stands now, and all other texts are the same
grown : (m n : tree.BTreeMap ℕ (String Global)) (k q : ℕ) (w : String Global) → tree.Updates nat_cmp m n k (Some w)
    → texts n q ≡ with_text k (string_bytes w) (texts m) q
grown m n k q w u = grind (arith, nat_tests, u.0 q)

pub appended : {E : Type 0} (r : Result (Unit {0}) E) (m n : tree.BTreeMap ℕ (String Global)) (k : ℕ) (old w : String Global) (added : List ℕ)
    → Some old ≡ tree.get nat_cmp m k → tree.Updates nat_cmp m n k (Some w)
    → string_bytes w ≡ (if is_ok r then string_bytes old ++ added else string_bytes old)
    → OnOk r (texts n ≡ with_text k (texts m k ++ added) (texts m))
appended (Err e) m n k old w added at u is = tt
appended (Ok v) m n k old w added at u is =
    let whole : string_bytes w ≡ texts m k ++ added =
    is ∙ ap (λ o. option_map_or string_bytes o [] ++ added) at in
    λ i q. (grown m n k q w u ∙ ap (λ t. with_text k t (texts m) q) whole) i
