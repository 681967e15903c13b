-- Clocks, and their readings.
use Rattle.std.specs.Prelude.{◌≡◌, ◌≤◌, ◌+◌, ◌-◌, ◌^◌, ℕ, min, ⊤, List, [], ◌∷◌}
use Rattle.span_times.specs.declared.clock.Counted.{Counted}
use Rattle.span_times.specs.declared.clock.Wall.{Wall}

-- a clock's reading: it isn't before the latest, and is the latest from then on
pub record Reads {C : Type 0} (latest : C → ℕ) (gives : C → ℕ → C → Type 0) (c : C) (time : ℕ)
    (d : C) : Type 0 where
  pub forward : latest c ≤ time
  pub kept : latest d ≡ time
  pub more : gives c time d

-- the latest reading of the runtime's clock
abbrev pub latest_read : {C : Type 0} → Wall C → ℕ
latest_read c = c.latest

-- the latest reading of a clock that counts
abbrev pub latest_counted : Counted → ℕ
latest_counted c = c.latest

-- the reading after this one
abbrev pub next_count : ℕ → ℕ
next_count n = min (n + 1000) (2 ^ 64 - 1)

-- each reading of a clock that counts is the next
abbrev pub counts_on : Counted → ℕ → Counted → Type 0
counts_on c time d = time ≡ next_count (latest_counted c)

-- the times never go back, from this one on
abbrev pub NeverGoBack : ℕ → List ℕ → Type 0
NeverGoBack from [] = ⊤
NeverGoBack from (time ∷ times) = (from ≤ time) × NeverGoBack time times
