-- Spans that are handed to a thread.
use Rattle.std.specs.Prelude.{◌≡◌, ℕ, ◌+◌, List, [], ◌∷◌, ◌++◌, String}
use Rattle.std.specs.declared.alloc.Global.{Global}
use Rattle.rtrb.specs.Ring.{SameProducer, sent}
use Rattle.span_sender.specs.Answer.{capped}
use Rattle.span_sender.specs.declared.sender.Sender.{Sender}

-- the spans that were handed over, oldest first
abbrev pub handed_by : Sender → List (String Global)
handed_by s = sent s.queue

-- how many spans were dropped where they were to be handed over
abbrev pub missed_by : Sender → ℕ
missed_by s = s.missed

-- the sender hands spans to the same thread
abbrev pub SameThread : Sender → Sender → Type 0
SameThread old new = SameProducer old.queue new.queue

-- a span was handed over, behind those before it
pub record Hands (old new : Sender) (span : String Global) : Type 0 where
  pub handed : handed_by new ≡ handed_by old ++ span ∷ []
  pub missed : missed_by new ≡ missed_by old
  pub same : SameThread old new

-- a span was dropped and counted
pub record Misses (old new : Sender) : Type 0 where
  pub handed : handed_by new ≡ handed_by old
  pub missed : missed_by new ≡ capped (missed_by old + 1)
  pub same : SameThread old new
