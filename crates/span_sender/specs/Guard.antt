-- The guard of a thread that posts spans.
use Rattle.std.specs.Prelude.{◌≡◌, List, [], String}
use Rattle.std.specs.declared.alloc.Global.{Global}
use Rattle.rtrb.specs.Ring.{IsPair}
use Rattle.span_sender.specs.Batches.{counts_of, held_by}
use Rattle.span_sender.specs.Post.{Posts}
use Rattle.span_sender.specs.Run.{Sends}
use Rattle.span_sender.specs.declared.batches.Batches.{Batches}
use Rattle.span_sender.specs.declared.batches.Counts.{Counts}
use Rattle.span_sender.specs.declared.guard.SenderGuard.{SenderGuard}
use Rattle.span_sender.specs.declared.sender.Sender.{Sender}

-- a guard's thread takes the spans of this sender
abbrev pub IsGuardOf : {P C R : Type 0} → SenderGuard P C R → Sender → Type 0
IsGuardOf guard sender = IsPair sender.queue guard.thread.promise.0.value.queue

-- the poster that the thread was given, as it was then
abbrev pub first_poster : {P C R : Type 0} → SenderGuard P C R → P
first_poster guard = guard.thread.promise.0.value.poster

-- the queue with which the thread began
abbrev pub first_batches : {P C R : Type 0} → SenderGuard P C R → Batches
first_batches guard = guard.thread.promise.0.value.batches

-- calls had a queue take all these spans and let them go, and just what they tried was posted
pub record SendsAll (first : Batches) (before after : Posts) (spans : List (String Global))
    (counts : Counts) : Type 0 where
  pub last : Batches
  pub sends : Sends first last before after spans
  pub empty : held_by last ≡ []
  pub counted : counts_of last ≡ counts
