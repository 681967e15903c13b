-- The first bucket up to which so many times are counted.
use Rattle.std.proofs.Common.{arith, ◌≡◌, ◌∙◌, ◌<◌, ◌≤◌, ◌+◌, ◌-◌, ◌*◌, ◌^◌, ℕ, Bool, true, false, List, [], ◌∷◌, ◌++◌, Option, None, Some, ap, cond, leb, map}
use Rattle.std.proofs.Common.{min, subst, sym, if◌then◌else◌}
use Rattle.std.proofs.lemmas.Bool.{lt-ltb}
use Rattle.std.proofs.lemmas.List.{map-append}
use Rattle.std.proofs.lemmas.List.Folds.{find-append}
use Rattle.std.specs.Borrow.{Bor}
use Rattle.std.specs.List.{find}
use Rattle.std.specs.List.Sorted.{IsStrictlySortedBy}
use Rattle.std.specs.Map.{keys_of}
use Rattle.std.specs.Map.Iter.{deref_pair}
use Rattle.std.specs.Option.{option_or}
use Rattle.std.specs.Ordering.{nat_cmp}
use Rattle.span_timing.proofs.Ranks.{below, split_below, total}
use Rattle.span_timing.specs.Histogram.{counted, counted_below, counts_in, holds_parts}
use Rattle.span_timing.specs.declared.histogram.Histogram.{Histogram}
use Rattle.span_times.specs.Measure.{capped}

-- so many times are counted up to an entry
counted_here : (h : Histogram) (done : List (ℕ × ℕ)) (e : ℕ × ℕ) (rest : List (ℕ × ℕ)) (so_far now : ℕ)
    → counts_in h ≡ done ++ e ∷ rest → IsStrictlySortedBy nat_cmp (keys_of (counts_in h))
    → so_far ≡ capped (total done) → now ≡ min (so_far + e.1) (2 ^ 64 - 1) → capped (counted_below (e.0 + 1) h) ≡ now
counted_here h done e rest so_far now split sorted before step =
    let P : List (ℕ × ℕ) → Type 0 = λ xs. IsStrictlySortedBy nat_cmp (keys_of xs) in
    let in_order : IsStrictlySortedBy nat_cmp (keys_of (done ++ e ∷ rest)) = subst P split sorted in
    let up : below (e.0 + 1) (done ++ e ∷ rest) ≡ total done + e.1 =
    split_below (e.0 + 1) done e rest (omega arith) (omega arith) in_order
    ∙ ap (λ b. total done + (if b then e.1 else 0)) (lt-ltb e.0 (e.0 + 1) (omega arith)) in
    let here : counted_below (e.0 + 1) h ≡ total done + e.1 = ap (below (e.0 + 1)) split ∙ up in
    omega arith

-- whether the parts are counted up to an entry
pub held_here : (h : Histogram) (parts whole : ℕ) (done : List (ℕ × ℕ)) (e : ℕ × ℕ) (rest : List (ℕ × ℕ)) (so_far now : ℕ)
    → counts_in h ≡ done ++ e ∷ rest → IsStrictlySortedBy nat_cmp (keys_of (counts_in h))
    → so_far ≡ capped (total done) → now ≡ min (so_far + e.1) (2 ^ 64 - 1)
    → holds_parts parts whole h e.0 ≡ leb (capped (counted h) * parts) (now * whole)
held_here h parts whole done e rest so_far now split sorted before step =
    ap (λ n. leb (capped (counted h) * parts) (n * whole)) (counted_here h done e rest so_far now split sorted before step)

-- the first entry that passes
pub found_here : (p : ℕ → Bool) (done : List (ℕ × ℕ)) (e : ℕ × ℕ) (rest : List (ℕ × ℕ))
    → find p (keys_of done) ≡ None → p e.0 ≡ true → find p (keys_of (done ++ e ∷ rest)) ≡ Some e.0
found_here p done e rest none here =
    ap (find p) (map-append (λ (x : ℕ × ℕ). x.0) done (e ∷ rest)) ∙ find-append p (keys_of done) (e.0 ∷ keys_of rest)
    ∙ ap (λ o. option_or o (find p (e.0 ∷ keys_of rest))) none ∙ ap (λ b. cond b (Some e.0) (find p (keys_of rest))) here

-- one more that doesn't
pub none_here : (p : ℕ → Bool) (xs : List (Bor ℕ × Bor ℕ)) (x : Bor ℕ × Bor ℕ)
    → find p (keys_of (map deref_pair xs)) ≡ None → p x.0.now ≡ false → find p (keys_of (map deref_pair (xs ++ x ∷ []))) ≡ None
none_here p xs x none here =
    ap (λ es. find p (keys_of es)) (map-append deref_pair xs (x ∷ []))
    ∙ ap (find p) (map-append (λ (e : ℕ × ℕ). e.0) (map deref_pair xs) (deref_pair x ∷ []))
    ∙ find-append p (keys_of (map deref_pair xs)) (x.0.now ∷ [])
    ∙ ap (λ o. option_or o (find p (x.0.now ∷ []))) none ∙ ap (λ b. cond b (Some x.0.now) None) here
