use Rattle.std.proofs.Common.{◌≡◌, take}
use Rattle.span_targets.proofs.targets.Targets.extend.Given as goal
use Rattle.span_targets.specs.Names.{naming_each}
use Rattle.span_targets.specs.Targets.{names_of}

-- the targets so far were taken
abbrev pub invariant-loop-target : goal.invariant-loop-target
invariant-loop-target l = names_of l.self ≡ naming_each (take l.target-index l.targets) (names_of l.fn.self)
