use Rattle.std.proofs.Common.{◌≡◌, ◌-◌, ◌/◌, ◌%◌, ◌<◌}
use Rattle.std.specs.Hash.FoldHasher.{mix_blocks}
use Rattle.span_macros.proofs.number.state_after.Given as goal

-- the state so far is that of the blocks so far
abbrev pub invariant-loop-at : goal.invariant-loop-at
invariant-loop-at l = (l.at % 16 ≡ 0) × (l.at < l.len) × (l.state ≡ mix_blocks l.bytes l.initial.state (l.at / 16))

abbrev pub decreases-loop-at : goal.decreases-loop-at
decreases-loop-at l = l.len - l.at
