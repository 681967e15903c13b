-- What a queue of spans shows, and what is to be done with it.
use Rattle.std.specs.Prelude.{◌≡◌, ℕ, ◌+◌, ◌-◌, ◌<◌, ◌==◌, ◌&&◌, ◌||◌, nat_le, min, Bool, if◌then◌else◌, List, [], ◌∷◌, ◌++◌, String, length, take}
use Rattle.std.specs.declared.alloc.Global.{Global}
use Rattle.span_sender.specs.Answer.{capped, rejected_by, wait_after}
use Rattle.span_sender.specs.declared.answer.Answer.{Answer}
use Rattle.span_sender.specs.declared.answer.Fate.TheVariants.{Accepted, Kept, Refused}
use Rattle.span_sender.specs.declared.answer.Fate.{Fate}
use Rattle.span_sender.specs.declared.batches.Action.TheVariants.{Idle, Post, Until}
use Rattle.span_sender.specs.declared.batches.Action.{Action}
use Rattle.span_sender.specs.declared.batches.Batches.{Batches}
use Rattle.span_sender.specs.declared.batches.Counts.{Counts}
use Rattle.span_sender.specs.declared.config.BatchConfig.{BatchConfig}

-- how large batches are, and when they go
abbrev pub config_of : Batches → BatchConfig
config_of b = b.config

-- the spans that are held, oldest first
abbrev pub held_by : Batches → List (String Global)
held_by b = b.held.items

-- how many of these the request under way has
abbrev pub sending : Batches → ℕ
sending b = b.sending

-- the spans of the request under way
abbrev pub batch_of : Batches → List (String Global)
batch_of b = take b.sending b.held.items

-- how often the request under way has failed
abbrev pub failed_tries : Batches → ℕ
failed_tries b = b.failed

-- before this time no request is posted, but one for a new batch that is full
abbrev pub due_at : Batches → ℕ
due_at b = b.due

-- what became of the spans so far, in numbers
abbrev pub counts_of : Batches → Counts
counts_of b = b.counts

-- a queue has room for a span
abbrev pub HasRoom : Batches → Type 0
HasRoom b = length (held_by b) < (config_of b).max_queue_size

-- a queue to which nothing was pushed
pub record IsNew (config : BatchConfig) (b : Batches) : Type 0 where
  pub config_same : config_of b ≡ config
  pub held : held_by b ≡ []
  pub due : due_at b ≡ 0
  pub counts : counts_of b ≡ record { pushed = 0; accepted = 0; refused = 0; dropped = 0 }

-- a batch can go before its time: it is new, and full
abbrev pub is_full : Batches → Bool
is_full b = (sending b == 0) && nat_le (config_of b).max_export_batch_size (length (held_by b))

-- what is to be done at a time
abbrev pub action_at : Batches → ℕ → Action
action_at b now =
    if length (held_by b) == 0 then Idle
    else if nat_le (due_at b) now || is_full b then Post
    else Until (due_at b)

-- how many spans the request has that is to be posted: those under way, or else as many as may be
abbrev pub posted_by : Batches → ℕ
posted_by b =
    if sending b == 0
    then min (config_of b).max_export_batch_size (length (held_by b))
    else sending b

-- what is held stays, and the counts are these
pub record HoldsSame (old new : Batches) (counts : Counts) : Type 0 where
  pub config : config_of new ≡ config_of old
  pub held : held_by new ≡ held_by old
  pub failed : failed_tries new ≡ failed_tries old
  pub due : due_at new ≡ due_at old
  pub counts_now : counts_of new ≡ counts

-- all but the time of the next request is as before
pub record IsAsBefore (old new : Batches) : Type 0 where
  pub config : config_of new ≡ config_of old
  pub held : held_by new ≡ held_by old
  pub batch : sending new ≡ sending old
  pub failed : failed_tries new ≡ failed_tries old
  pub counts : counts_of new ≡ counts_of old

-- a span is held behind the others, and the counts are these
pub record Takes (old new : Batches) (span : String Global) (counts : Counts) : Type 0 where
  pub config : config_of new ≡ config_of old
  pub held : held_by new ≡ held_by old ++ span ∷ []
  pub batch : sending new ≡ sending old
  pub failed : failed_tries new ≡ failed_tries old
  pub due : due_at new ≡ due_at old
  pub counts_now : counts_of new ≡ counts

-- the batch waits for another try, as its answer has it; nothing is lost
pub record WaitsAgain (old new : Batches) (answer : Answer) (now : ℕ) : Type 0 where
  pub config : config_of new ≡ config_of old
  pub held : held_by new ≡ held_by old
  pub batch : sending new ≡ sending old
  pub failed : failed_tries new ≡ failed_tries old + 1
  pub due : due_at new ≡ capped (now + wait_after (config_of old).retry (failed_tries old) answer)
  pub counts : counts_of new ≡ counts_of old

-- the batch has ended and is counted; what is held behind it stays, in order
pub record Ends (old new : Batches) (counts : Counts) (now : ℕ) : Type 0 where
  pub config : config_of new ≡ config_of old
  pub held : held_by old ≡ batch_of old ++ held_by new
  pub batch : sending new ≡ 0
  pub failed : failed_tries new ≡ 0
  pub due : due_at new ≡ capped (now + (config_of old).scheduled_delay)
  pub counts_now : counts_of new ≡ counts

-- so many more have ended, of which so many were refused, or all, and the others accepted
abbrev pub with_ended : Counts → ℕ → ℕ → Counts
with_ended counts n refused =
    record counts {
      accepted = capped (counts.accepted + (n - refused));
      refused = capped (counts.refused + min refused n);
    }

-- so many more were dropped
abbrev pub with_dropped : Counts → ℕ → Counts
with_dropped counts n = record counts { dropped = capped (counts.dropped + n) }

-- one more was pushed
abbrev pub with_pushed : Counts → Counts
with_pushed counts = record counts { pushed = capped (counts.pushed + 1) }

-- what becomes of a batch by an answer: accepted but for what that rejects, refused, or kept
abbrev pub Answered : Fate → Batches → Batches → Answer → ℕ → Type 0
Answered Accepted old new answer now =
    Ends old new (with_ended (counts_of old) (length (batch_of old)) (rejected_by answer)) now
Answered Refused old new answer now =
    Ends old new (with_ended (counts_of old) (length (batch_of old)) (length (batch_of old))) now
Answered Kept old new answer now = WaitsAgain old new answer now

-- all that was held is dropped and counted
pub record GivesUp (old new : Batches) : Type 0 where
  pub config : config_of new ≡ config_of old
  pub held : held_by new ≡ []
  pub batch : sending new ≡ 0
  pub counts : counts_of new ≡ with_dropped (counts_of old) (length (held_by old))
