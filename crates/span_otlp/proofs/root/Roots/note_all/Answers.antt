use Rattle.std.proofs.Common.{arith}
use Rattle.span_otlp.proofs.Rooted.{opening_more}
use Rattle.span_otlp.specs.private.Rooted.{root_by}
use Rattle.span_otlp.proofs.root.Roots.note_all.Goals as goal

pub loop-what-preserved : goal.loop-what-preserved
loop-what-preserved c = λ hs before x.
    opening_more hs c.args.above.now c.loop-what.what-index _ (root_by c.loop-what.self) (root_by c.note.new.self) (omega arith)
    (c.loop-what.invariant hs before) c.in_ok-note.ensures x
