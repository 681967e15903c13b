-- What a thread makes of the spans that it takes.
use Rattle.rtrb.specs.Ring.{SameConsumer, received}
use Rattle.span_sender.specs.Post.{Posts}
use Rattle.span_sender.specs.Run.{Sends}
use Rattle.span_sender.specs.declared.worker.Worker.{Worker}

-- a thread had its queue take all spans that it received, and posted just what that had it post
pub record HasSent {P C : Type 0} (posted : P → Posts)
    (first now : Worker P C) : Type 0 where
  pub queue_same : SameConsumer first.queue now.queue
  pub sends : Sends first.batches now.batches (posted first.poster) (posted now.poster)
      (received now.queue)
