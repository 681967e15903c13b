use Rattle.span_sender.proofs.Worked.{begun}
use Rattle.span_sender.proofs.sender.Sender.new.Goals as goal

pub spawn_with-requires-clause-runs : goal.spawn_with-requires-clause-runs
spawn_with-requires-clause-runs g c κs within = begun g.P.Poster.posted _ c.in_ok-queue.ensures.consumer.0
