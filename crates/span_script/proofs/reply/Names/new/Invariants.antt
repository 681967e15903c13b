use Rattle.std.proofs.Common.{ℕ, ◌<◌, List, MatchOption}
use Rattle.std.specs.Ordering.{nat_cmp}
use Rattle.std.specs.BTreeMap as tree
use Rattle.span_script.specs.Printed.{IsNamedAt}
use Rattle.span_script.proofs.reply.Names.new.Given as goal

-- the names that the lines so far give
abbrev pub invariant-loop-place : goal.invariant-loop-place
invariant-loop-place l = (number : ℕ) → MatchOption (tree.get nat_cmp l.labels number)
    ((place : ℕ) (label : List ℕ) → place < l.place → ¬ (IsNamedAt l.lines l.answers place number label))
    (λ label. (place : ℕ) × IsNamedAt l.lines l.answers place number label.now)
