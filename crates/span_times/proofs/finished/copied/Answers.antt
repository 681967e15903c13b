use Rattle.std.proofs.Common.{◌≡◌, ◌∙◌, ◌<◌, ◌+◌, ◌++◌, None, ap, arith, drop, false, flat_map, get_or, length, sym, true}
use Rattle.std.specs.BTreeSet.{contains}
use Rattle.std.specs.Ordering.{nat_cmp}
use Rattle.span_times.proofs.Batches.{copies, fields_more, next_copied, next_left_out, point_more, within_said}
use Rattle.span_times.specs.Field.{kept_in, within}
use Rattle.span_times.specs.Finished.{goes_with, points_for}
use Rattle.span_times.specs.declared.happening.Happening.TheVariants.{Opened}
use Rattle.span_times.specs.declared.happening.Point.{Point}
use Rattle.span_times.proofs.finished.copied.Goals as goal
use Rattle.span_times.proofs.finished.copied.Goals.{then-goes_with+in_ok-add, else-goes_with}

pub loop-point-preserved : goal.loop-point-preserved
loop-point-preserved c =
    let over = c.args.over in
    let closed = contains nat_cmp c.args.closed.now in
    let fs = c.args.fields.now in
    let kept = kept_in fs in
    let ps = c.args.points.now in
    let i = c.loop-point.point-index in
    let nothing : Point = record { time = 0; lane = record { 0 = 0 }; what = Opened (record { number = 0 }) 0 None; fields = record { from = 0; to = 0 } } in
    let p = get_or ps i nothing in
    let lt : i < length ps = omega arith in
    let batch = c.loop-point.batch in
    let to_come = copies over closed kept (drop i ps) in
    let rest = copies over closed kept (drop (i + 1) ps) in
    elim c.if-goes_with.branch [
      | then-goes_with+in_ok-add w ↦
          let test : goes_with over closed p.what ≡ true = sym c.goes_with.ensures ∙ w.if-goes_with.true in
          let given = kept_in w.fields_in.result.now in
          let own : given ≡ within p.fields kept = ap kept_in w.fields_in.ensures ∙ within_said p.fields fs in
          let next = next_copied over closed kept ps i nothing lt test in
          let grown = ap (λ b. b.points.items) w.batch-is ∙ w.in_ok-add.ensures.points in
          let more = ap (λ b. kept_in b.fields.items) w.batch-is ∙ w.in_ok-add.ensures.fields in
          record {
            points = point_more over
                closed kept batch.points.items _ _ (kept_in batch.fields.items) _ given p to_come rest own next grown more c.loop-point.invariant.points;
            fields = fields_more over closed kept (kept_in batch.fields.items) _ given _ p to_come rest own next more c.loop-point.invariant.fields;
          }
      | else-goes_with w ↦
          let test : goes_with over closed p.what ≡ false = sym c.goes_with.ensures ∙ w.if-goes_with.false in
          let next = next_left_out over closed kept ps i nothing lt test in
          record {
            points = ap (λ b. b.points.items ++ points_for (length (kept_in b.fields.items)) rest) w.batch-is
                ∙ ap (λ ss. batch.points.items ++ points_for (length (kept_in batch.fields.items)) ss) (sym next) ∙ c.loop-point.invariant.points;
            fields = ap (λ b. kept_in b.fields.items ++ flat_map (λ s. s.fields) rest) w.batch-is
                ∙ ap (λ ss. kept_in batch.fields.items ++ flat_map (λ s. s.fields) ss) (sym next) ∙ c.loop-point.invariant.fields;
          }
    ]
