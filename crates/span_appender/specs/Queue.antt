-- Lines that are handed to a thread.
use Rattle.std.specs.Prelude.{◌≡◌, ℕ, ◌+◌, ◌-◌, ◌^◌, ◌⊎◌, min, List, [], ◌∷◌, ◌++◌, flat_map, map}
use Rattle.rtrb.specs.Ring.{SameProducer, sent}
use Rattle.span_appender.specs.declared.non_blocking.NonBlocking.{NonBlocking}
use Rattle.span_appender.specs.declared.waiting.Waiting.{Waiting}

-- the lines that were accepted, oldest first
abbrev pub accepted : NonBlocking → List (List ℕ)
accepted w = map (λ line. line.items) (sent w.queue)

-- the line that is begun
abbrev pub begun : NonBlocking → List ℕ
begun w = w.begun.items

-- how many lines were dropped
abbrev pub dropped_by : NonBlocking → ℕ
dropped_by w = w.dropped

-- a count goes up by one, but not past the largest number
abbrev pub one_more : ℕ → ℕ
one_more n = min (n + 1) (2 ^ 64 - 1)

-- a line was accepted, behind those before it
abbrev pub Accepts : NonBlocking → NonBlocking → List ℕ → Type 0
Accepts old new line =
    (accepted new ≡ accepted old ++ line ∷ []) × (dropped_by new ≡ dropped_by old)

-- a line was dropped and counted
abbrev pub Drops : NonBlocking → NonBlocking → Type 0
Drops old new = (accepted new ≡ accepted old) × (dropped_by new ≡ one_more (dropped_by old))

-- the writer hands lines to the same thread
abbrev pub SameThread : NonBlocking → NonBlocking → Type 0
SameThread old new = SameProducer old.queue new.queue

-- a line was accepted, or else dropped and counted, and none is begun
pub record HandsOver (old new : NonBlocking) (line : List ℕ) : Type 0 where
  pub goes : Accepts old new line ⊎ Drops old new
  pub begun_none : begun new ≡ []
  pub same : SameThread old new

-- this line is begun, and nothing else has changed
pub record Begins (old new : NonBlocking) (line : List ℕ) : Type 0 where
  pub line_begun : begun new ≡ line
  pub accepted_same : accepted new ≡ accepted old
  pub dropped_same : dropped_by new ≡ dropped_by old
  pub same : SameThread old new

-- nothing has changed
abbrev pub IsUnchanged : NonBlocking → NonBlocking → Type 0
IsUnchanged old new = Begins old new (begun old)

-- a line was accepted, and none is begun
pub record Adds (old new : NonBlocking) (line : List ℕ) : Type 0 where
  pub goes : Accepts old new line
  pub begun_none : begun new ≡ []
  pub same : SameThread old new

-- the bytes that were accepted, and those of the line that is begun
abbrev pub handed : NonBlocking → List ℕ
handed w = flat_map (λ line. line) (accepted w) ++ begun w

-- the writer beneath one that waits
abbrev pub lines_of : {R : Type 0} → Waiting R → NonBlocking
lines_of w = w.lines
