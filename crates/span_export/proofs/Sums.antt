-- Sums in a map, and their texts.
use Rattle.std.proofs.Common.{arith, ◌≡◌, ◌∙◌, ◌+◌, ℕ, List, [], ◌∷◌, Option, None, Some, ap, cond, map, refl, string_bytes, unwrap_or, String}
use Rattle.std.specs.BTreeMap.{insert_entry, is_at}
use Rattle.std.specs.List.Sorted.{IsStrictlySortedBy}
use Rattle.std.specs.Map.{keys_of, lookup}
use Rattle.std.specs.Ordering.{is_eq, match_ordering}
use Rattle.std.specs.String.{string_cmp, string_cmp_total}
use Rattle.std.specs.declared.alloc.Global.{Global}
use Rattle.std.specs.declared.cmp.Ordering.{Ordering}
use Rattle.std.specs.declared.cmp.Ordering.TheVariants.{Equal, Greater, Less}
use Rattle.std.proofs.lemmas.Map.{lookup-none}
use Rattle.std.proofs.lemmas.Map.Entries.{none_below_head}
use Rattle.std.proofs.lemmas.Map.Keys.{sorted_tail}
use Rattle.span_times.specs.Measure.{capped}
use Rattle.span_export.specs.Folded.{Sums, add}

abbrev pub texts : List (String Global × ℕ) → Sums
texts es = map (λ e. (string_bytes e.0, e.1)) es

-- the sum of what is found and so much more
abbrev more : Option ℕ → ℕ → ℕ
more found time = capped (unwrap_or found 0 + time)

-- a look-up, by how the key compares with the first
abbrev found_by : Ordering → ℕ → Option ℕ → Option ℕ
found_by o first later = cond (is_eq o) (Some first) later

one : (o : Ordering) (k : String Global) (time : ℕ) (e : String Global × ℕ) (es : List (String Global × ℕ)) (later : Option ℕ) → (o ≡ Less → later ≡ None)
    → texts (insert_entry string_cmp es k (more later time)) ≡ add (string_bytes k) time (texts es)
    → texts (match_ordering o ((k, more (found_by o e.1 later) time) ∷ e ∷ es)
    ((e.0, more (found_by o e.1 later) time) ∷ es) (e ∷ insert_entry string_cmp es k (more (found_by o e.1 later) time)))
    ≡ match_ordering o ((string_bytes k, capped time) ∷ (string_bytes e.0, e.1) ∷ texts es)
    ((string_bytes e.0, capped (e.1 + time)) ∷ texts es) ((string_bytes e.0, e.1) ∷ add (string_bytes k) time (texts es))
one Less k time e es later none rest =
    let nothing : more later time ≡ capped time = ap (λ o. more o time) (none refl) ∙ omega arith in
    ap (λ n. (string_bytes k, n) ∷ (string_bytes e.0, e.1) ∷ texts es) nothing
one Equal k time e es later none rest = refl
one Greater k time e es later none rest = ap (λ ts. (string_bytes e.0, e.1) ∷ ts) rest

-- a sum that is read, raised and put back is a sum with so much more
pub raised : (k : String Global) (time : ℕ) (es : List (String Global × ℕ)) → IsStrictlySortedBy string_cmp (keys_of es)
    → texts (insert_entry string_cmp es k (more (lookup (is_at (string_cmp k)) es) time)) ≡ add (string_bytes k) time (texts es)
raised k time [] sorted = ap (λ n. (string_bytes k, n) ∷ []) (omega arith)
raised k time (e ∷ es) sorted =
    let later = lookup (is_at (string_cmp k)) es in
    let past : string_cmp k e.0 ≡ Less → later ≡ None =
    λ less. lookup-none (is_at (string_cmp k)) es ((none_below_head string_cmp_total k e es sorted less).1) in
    one (string_cmp k e.0) k time e es later past (raised k time es (sorted_tail string_cmp e.0 (keys_of es) sorted))
