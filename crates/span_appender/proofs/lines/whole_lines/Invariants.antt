use Rattle.std.proofs.Common.{◌≡◌, ◌≢◌, ◌+◌, ◌-◌, ◌<◌, ◌≤◌, ℕ, List, length, take, not, nat_eq, get_or}
use Rattle.std.specs.List.{suffix_len}
use Rattle.span_appender.proofs.lines.whole_lines.Given as goal

pub record Behind (text : List ℕ) (whole : ℕ) : Type 0 where
  pub within : whole ≤ length text
  pub inner : (k : ℕ) → whole ≤ k → k < length text → get_or text k 0 ≢ 10
  pub so_far : suffix_len (λ byte. not (nat_eq byte 10)) text ≡ (length text - whole) + suffix_len (λ byte. not (nat_eq byte 10)) (take whole text)

abbrev pub invariant-loop-whole : goal.invariant-loop-whole
invariant-loop-whole l = Behind l.text l.whole

abbrev pub decreases-loop-whole : goal.decreases-loop-whole
decreases-loop-whole l = l.whole
