use Rattle.std.proofs.Common.{false, refl}
use Rattle.std.proofs.lemmas.Result.{IfOk-weaker}
use Rattle.span_times.proofs.Order.{rest_in_order}
use Rattle.span_times.specs.Finished.{goes_with, is_closed_in}
use Rattle.span_times.specs.Timeline.{clock_of, fields_of, points_of}
use Rattle.span_times.proofs.timeline.Timeline.take_finished.Goals as goal

pub returns-clause-taken : goal.returns-clause-taken
returns-clause-taken g c =
    let x = c.args.self.now in
    let new = c.take_finished.new.self in
    IfOk-weaker c.take_finished.result _ _ (λ taken h. record {
      split = h;
      values = refl;
      failed = refl;
      clock = refl;
      order = λ order.
          rest_in_order (λ s. goes_with false (is_closed_in (points_of x)) s.what) (g.C.Now.latest (clock_of x)) (fields_of x) new.fields (points_of x)
          new.points h.rest order;
    }) c.take_finished.ensures.taken
