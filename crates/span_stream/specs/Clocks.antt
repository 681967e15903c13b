-- Clocks of the time since 1970, and of the time since a start.
use Rattle.std.specs.Prelude.{ℕ}
use Rattle.span_stream.specs.declared.clocks.Uptime.{Uptime}
use Rattle.span_stream.specs.declared.clocks.Utc.{Utc}

-- the latest reading of a clock of the time since 1970
abbrev pub latest_of_day : {C : Type 0} → Utc C → ℕ
latest_of_day c = c.latest

-- the latest reading of a clock of the time since a start
abbrev pub latest_since : {C : Type 0} → Uptime C → ℕ
latest_since c = c.latest
