-- What a program may do with a queue of spans, and what came of the spans.
use Rattle.std.specs.Prelude.{◌≡◌, ℕ, ◌+◌, ◌-◌, min, List, [], ◌∷◌, ◌++◌, String, flat_map, length, sum_by}
use Rattle.std.specs.declared.alloc.Global.{Global}
use Rattle.span_sender.specs.Answer.{capped, fate_of, rejected_by}
use Rattle.span_sender.specs.Batches.{Answered, GivesUp, HoldsSame, Takes, action_at, batch_of, config_of, counts_of, failed_tries, held_by, posted_by, sending, with_dropped, with_pushed}
use Rattle.span_sender.specs.Body.{body_of}
use Rattle.span_sender.specs.Post.{Grows, Posts}
use Rattle.span_sender.specs.declared.answer.Answer.{Answer}
use Rattle.span_sender.specs.declared.answer.Fate.TheVariants.{Accepted, Refused}
use Rattle.span_sender.specs.declared.answer.Fate.{Fate}
use Rattle.span_sender.specs.declared.batches.Action.TheVariants.{Post}
use Rattle.span_sender.specs.declared.batches.Batches.{Batches}

-- what a call did
pub data Event : Type 0 where
  -- a push whose span was taken
  Took : (span : String Global) → Event
  -- a push whose span was dropped
  Missed : Event
  -- a request was begun, or nothing but times changed
  Looked : Event
  -- a batch was posted, this came, and that became of it
  Tried : (batch : List (String Global)) → (answer : Answer) → (fate : Fate) → (now : ℕ) → Event
  -- all these were given up
  GaveUp : (spans : List (String Global)) → Event

-- what is held is the same, and so are the counts
pub record SameSpans (old new : Batches) : Type 0 where
  pub held : held_by new ≡ held_by old
  pub counts : counts_of new ≡ counts_of old

-- a call has a queue go from old to new
abbrev pub Step : Batches → Event → Batches → Type 0
Step old (Took span) new = Takes old new span (with_pushed (counts_of old))
Step old Missed new = HoldsSame old new (with_dropped (with_pushed (counts_of old)) 1)
Step old Looked new = SameSpans old new
Step old (Tried batch answer fate now) new =
    (batch ≡ batch_of old)
    × (fate ≡ fate_of (config_of old).retry (failed_tries old) answer)
    × Answered fate old new answer now
Step old (GaveUp spans) new = (spans ≡ held_by old) × GivesUp old new

-- calls, one after another, have a queue go from old to new
abbrev pub Run : Batches → List Event → Batches → Type 0
Run old [] new = new ≡ old
Run old (event ∷ events) new = (mid : Batches) × Step old event mid × Run mid events new

-- the spans that were taken
abbrev pub took : Event → List (String Global)
took (Took span) = span ∷ []
took other = []

-- how many spans of a batch the collector accepted: all, but those that it rejected
abbrev pub accepted_by : Event → ℕ
accepted_by (Tried batch answer Accepted now) = length batch - rejected_by answer
accepted_by other = 0

-- how many were refused: those rejected, or the batch
abbrev pub refused_by : Event → ℕ
refused_by (Tried batch answer Accepted now) = min (rejected_by answer) (length batch)
refused_by (Tried batch answer Refused now) = length batch
refused_by other = 0

-- the spans that are held no longer
abbrev pub let_go : Event → List (String Global)
let_go (Tried batch answer Accepted now) = batch
let_go (Tried batch answer Refused now) = batch
let_go (GaveUp spans) = spans
let_go other = []

-- how many spans were dropped
abbrev pub dropped_by : Event → ℕ
dropped_by Missed = 1
dropped_by (GaveUp spans) = length spans
dropped_by other = 0

-- how many spans were pushed
abbrev pub pushed_by : Event → ℕ
pushed_by (Took span) = 1
pushed_by Missed = 1
pushed_by other = 0

-- the requests that were posted, and what came of each
abbrev pub posts : Event → List (List ℕ × Answer)
posts (Tried batch answer fate now) = (body_of batch, answer) ∷ []
posts other = []

-- no span is lost: what was taken is, in order, what was let go and what is held; as many as were
-- pushed are held, or were accepted, refused or dropped, and are counted as that
pub record LosesNone (events : List Event) (new : Batches) : Type 0 where
  pub order : flat_map took events ≡ flat_map let_go events ++ held_by new
  pub once : sum_by pushed_by events
      ≡ ((sum_by accepted_by events + sum_by refused_by events) + sum_by dropped_by events)
      + length (held_by new)
  pub accepted : (counts_of new).accepted ≡ capped (sum_by accepted_by events)
  pub refused : (counts_of new).refused ≡ capped (sum_by refused_by events)
  pub dropped : (counts_of new).dropped ≡ capped (sum_by dropped_by events)
  pub pushed : (counts_of new).pushed ≡ capped (sum_by pushed_by events)

-- calls had a queue go from old to new with these spans taken, and just what they tried was posted
pub record Sends (old new : Batches) (before after : Posts)
    (spans : List (String Global)) : Type 0 where
  pub events : List Event
  pub run : Run old events new
  pub taken : flat_map took events ≡ spans
  pub posted : Grows before after (flat_map posts events)

-- the batch under way was posted, and what came was told to the queue; nothing else happened
pub record TriesOnce (old new : Batches) (before after : Posts)
    : Type 0 where
  pub answer : Answer
  pub fate : Fate
  pub now : ℕ
  pub posted : Grows before after ((body_of (batch_of old), answer) ∷ [])
  pub told : Step old (Tried (batch_of old) answer fate now) new

-- the queue began a batch that was due, or went on with one; it was posted, and what came was told
pub record PostsNext (old new : Batches) (time : ℕ) (before after : Posts)
    : Type 0 where
  pub mid : Batches
  pub due : action_at old time ≡ Post
  pub begun : HoldsSame old mid (counts_of old)
  pub batch : sending mid ≡ posted_by old
  pub tries : TriesOnce mid new before after
