use Rattle.std.proofs.Common.{◌≡◌, ◌+◌, ◌==◌, ◌||◌, None, arith, get_or, take}
use Rattle.std.proofs.lemmas.Grind.{common_steps}
use Rattle.std.proofs.lemmas.List.Folds.{list_any_more}
use Rattle.span_export.specs.Picture.{has_points}
use Rattle.span_export.proofs.frame.rows.Goals as goal
use Rattle.span_export.proofs.frame.rows.Goals.{then-not-contains_key+in_ok-insert, else-not-contains_key}
use Rattle.span_times.specs.declared.happening.Happening.TheVariants.{Opened}
use Rattle.span_times.specs.declared.happening.Point.{Point}

pub loop-point-preserved : goal.loop-point-preserved
loop-point-preserved c = λ q.
    let ps = c.args.points.now in
    let i = c.loop-point.point-index in
    let none : Point = record { time = 0; lane = record { 0 = 0 }; what = Opened (record { number = 0 }) 0 None; fields = record { from = 0; to = 0 } } in
    let p = get_or ps i none in
    let split : has_points (take (i + 1) ps) q ≡ has_points (take i ps) q || (p.lane.0 == q) =
    list_any_more (λ (p : Point). p.lane.0 == q) ps i none (omega arith) in
    let old = c.loop-point.invariant q in
    let here = c.loop-point.invariant p.lane.0 in
    elim c.if-not-contains_key.branch [
      | then-not-contains_key+in_ok-insert w ↦ grind (arith, common_steps, old, split, w.rows_on.ensures)
      | else-not-contains_key w ↦ grind (arith, common_steps, old, here, split)
    ]
