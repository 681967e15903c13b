use Rattle.std.proofs.Common.{◌++◌, map, take}
use Rattle.span_otlp.specs.private.Rooted.{AreRoots}
use Rattle.span_otlp.proofs.root.Roots.of.Given as goal

-- the roots by the openings above, and by the points so far, are noted
abbrev pub invariant-loop-point : goal.invariant-loop-point
invariant-loop-point l = AreRoots (l.table.above.now ++ map (λ p. p.what) (take l.point-index l.points)) l.roots
