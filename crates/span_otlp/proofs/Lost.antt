-- Sums up to the greatest u64, one by one.
use Rattle.std.proofs.Common.{arith, ◌≡◌, ◌∙◌, ◌<◌, ◌+◌, ℕ, List, ap, get_or, length, sum_by, sym, take}
use Rattle.std.proofs.lemmas.List.Sums.{fold_more}
use Rattle.span_times.specs.Measure.{capped}
use Rattle.span_times.specs.declared.happening.Point.{Point}

capped_again : (s n : ℕ) → capped (capped s + n) ≡ capped (s + n)
capped_again s n = omega arith

-- one more is added
pub capped_more : (f : Point → ℕ) (ps : List Point) (i : ℕ) (d : Point) (old n : ℕ)
    → i < length ps → old ≡ capped (sum_by f (take i ps)) → n ≡ f (get_or ps i d) → capped (old + n) ≡ capped (sum_by f (take (i + 1) ps))
capped_more f ps i d old n within so_far here =
    let s = sum_by f (take i ps) in
    let more : sum_by f (take (i + 1) ps) ≡ s + f (get_or ps i d) = fold_more (λ a p. a + f p) 0 ps i d within in
    ap (λ o. capped (o + n)) so_far ∙ capped_again s n ∙ ap (λ m. capped (s + m)) here ∙ ap capped (sym more)
