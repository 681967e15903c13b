use Rattle.std.proofs.Common.{◌++◌, List, take}
use Rattle.span_otlp.specs.private.Rooted.{AreRoots}
use Rattle.span_otlp.proofs.root.Roots.note_all.Given as goal
use Rattle.span_times.specs.declared.happening.Happening.{Happening}

-- the roots by the openings so far are noted, behind those that were
abbrev pub invariant-loop-what : goal.invariant-loop-what
invariant-loop-what l = (hs : List Happening) → AreRoots hs l.fn.self → AreRoots (hs ++ take l.what-index l.above) l.self
