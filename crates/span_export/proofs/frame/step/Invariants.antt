use Rattle.std.proofs.Common.{◌≤◌, ◌<◌, ◌*◌, ◌-◌, max}
use Rattle.span_export.proofs.frame.step.Given as goal

-- nine times the power lie within the time, unless it is 1
abbrev pub invariant-loop-power : goal.invariant-loop-power
invariant-loop-power l = record { some : 0 < l.power; fits : l.power * 9 ≤ max l.span 9 }

abbrev pub decreases-loop-power : goal.decreases-loop-power
decreases-loop-power l = l.span - l.power
