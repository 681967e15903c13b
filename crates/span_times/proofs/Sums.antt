-- Sums over points, at their end.
use Rattle.std.proofs.Common.{arith, ◌≡◌, ◌∙◌, ◌<◌, ◌≤◌, ◌+◌, ◌^◌, ℕ, Bool, List, [], drop, length, Option, ap, sym}
use Rattle.std.proofs.lemmas.List.{drop_all}
use Rattle.span_times.specs.Measure.{capped, spent}
use Rattle.span_times.specs.declared.happening.Happening.{Happening}
use Rattle.span_times.specs.declared.happening.Point.{Point}

capped_now : (n : ℕ) → n < 2 ^ 64 → capped (n + 0) ≡ n
capped_now n fits = omega arith

-- a sum to which no point is left to add is the whole
pub spent_all : (ps : List Point) (i : ℕ) (lies : Happening → Happening → Bool) (x : ℕ) (last : Option Point) (time whole : ℕ) → length ps ≤ i → time < 2 ^ 64
    → capped (time + spent lies x last (drop i ps)) ≡ whole → time ≡ whole
spent_all ps i lies x last time whole past fits so_far =
    let ended : drop i ps ≡ [] = drop_all i ps past in
    sym (capped_now time fits) ∙ sym (ap (λ ds. capped (time + spent lies x last ds)) ended) ∙ so_far
