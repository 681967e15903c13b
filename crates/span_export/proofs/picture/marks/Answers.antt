use Rattle.std.proofs.Common.{None, ap, arith, get_or, string_bytes}
use Rattle.span_export.proofs.Joined.{one_more_written}
use Rattle.span_export.proofs.picture.marks.Goals as goal
use Rattle.span_export.specs.Picture.{mark_of, top_in}
use Rattle.span_times.specs.declared.happening.Happening.TheVariants.{Opened}
use Rattle.span_times.specs.declared.happening.Point.{Point}

pub loop-point-preserved : goal.loop-point-preserved
loop-point-preserved c =
    let scale = c.args.scale.now in
    let ps = c.args.points.now in
    let none : Point = record { time = 0; lane = record { 0 = 0 }; what = Opened (record { number = 0 }) 0 None; fields = record { from = 0; to = 0 } } in
    let i = c.loop-point.point-index in
    let p = get_or ps i none in
    one_more_written (λ p. mark_of c.args.table scale (top_in c.args.tops.now p.lane.0) p p.what)
    ps i none (string_bytes c.loop-point.text) (string_bytes c.write_point.new.text) (mark_of c.args.table scale c.top_of-top.result p p.what) (omega arith)
    c.loop-point.invariant c.in_ok-write_point.ensures (ap (λ t. mark_of c.args.table scale t p p.what) c.top_of-top.ensures)
