use Rattle.std.proofs.Common.{◌≡◌, ◌++◌}
use Rattle.span_export.specs.private.Plan.{end_from, tops_from}
use Rattle.span_export.proofs.frame.Plan.of.Given as goal

-- the tops so far, and those of the lanes to come, are all
abbrev pub invariant-loop-lane : goal.invariant-loop-lane
invariant-loop-lane l = record {
  tops : l.tops.entries ++ tops_from l.height l.lane-iterator ≡ tops_from 56 l.initial.lane-iterator;
  height : end_from l.height l.lane-iterator ≡ end_from 56 l.initial.lane-iterator;
}
