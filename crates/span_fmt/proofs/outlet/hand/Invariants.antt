use Rattle.span_fmt.specs.Outlet.{Takes}
use Rattle.span_fmt.proofs.outlet.hand.Given as goal

-- what is gone from the rest is written
abbrev pub invariant-loop-turn : goal.invariant-loop-turn
invariant-loop-turn g l = Takes (g.W.Write.contents l.initial.writer) (g.W.Write.contents l.writer) l.initial.rest l.rest
