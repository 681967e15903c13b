-- What a thread makes of the lines that it takes.
use Rattle.std.specs.Prelude.{◌≡◌, ℕ, Option, List, flat_map}
use Rattle.std.specs.Io.KnownBytes.{Appends}
use Rattle.rtrb.specs.Ring.{SameConsumer, received}
use Rattle.span_appender.specs.declared.worker.Worker.{Worker}

module _ {W : Type 0} (contents : W → Option (List ℕ)) where
  -- if no call of the writer has failed, none had, and the bytes went to the writer
  pub record Wrote (old new : Worker W) (bytes : List ℕ) : Type 0 where
    pub queue_same : new.queue ≡ old.queue
    pub whole : new.lost ≡ 0
        → (old.lost ≡ 0) × Appends (contents old.writer) (contents new.writer) bytes

  -- if no call of the writer has failed, it was given all lines that were taken, in order
  pub record HasWritten (first now : Worker W) : Type 0 where
    pub queue_same : SameConsumer first.queue now.queue
    pub whole : now.lost ≡ 0
        → Appends (contents first.writer) (contents now.writer)
        (flat_map (λ line. line.items) (received now.queue))
