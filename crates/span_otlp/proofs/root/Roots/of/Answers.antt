use Rattle.std.proofs.Common.{◌∙◌, [], ap, append-nil, arith, rules, sym}
use Rattle.span_otlp.proofs.Rooted.{point_more}
use Rattle.span_otlp.specs.Root.{root_in}
use Rattle.span_otlp.specs.private.Rooted.{root_by}
use Rattle.span_otlp.proofs.root.Roots.of.Goals as goal

pub loop-point-preserved : goal.loop-point-preserved
loop-point-preserved c = λ x.
    point_more c.args.table.above.now c.args.points.now c.loop-point.point-index _ (root_by c.loop-point.roots) (root_by c.note.new.self) (omega arith)
    c.loop-point.invariant c.in_ok-note.ensures x

pub loop-point-init : goal.loop-point-init
loop-point-init c = λ x.
    c.in_ok-note_all.ensures [] (λ y. search rules) x ∙ ap (λ ks. root_in ks x) (sym (append-nil c.args.table.above.now))
