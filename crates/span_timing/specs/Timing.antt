-- How often spans and events came, and how long spans took.
use Rattle.std.specs.Prelude.{◌≡◌, ◌<◌, ◌^◌, ◌==◌, ℕ, List, [], MatchOption, Option, count_by, filter, length, unwrap_or}
use Rattle.std.specs.BTreeMap.{get, keys}
use Rattle.std.specs.Ordering.{nat_cmp}
use Rattle.span_timing.specs.Row.{IsRowOf}
use Rattle.span_timing.specs.declared.life.Life.{Life}
use Rattle.span_timing.specs.declared.timing.Row.{Row}
use Rattle.span_timing.specs.declared.timing.Timing.{Timing}

-- the row of a callsite, if it has one
abbrev pub row_at : ℕ → Timing → Option Row
row_at n t = get nat_cmp t.rows n

-- how many events a callsite sent
abbrev pub events_at : ℕ → Timing → ℕ
events_at n t = unwrap_or (get nat_cmp t.events n) 0

-- the callsites of which spans closed, in the order of their numbers
abbrev pub span_callsites : Timing → List ℕ
span_callsites t = keys t.rows

-- the callsites that sent events, in the order of their numbers
abbrev pub event_callsites : Timing → List ℕ
event_callsites t = keys t.events

-- the lives of spans of one callsite
abbrev pub of_callsite : ℕ → List Life → List Life
of_callsite n lives = filter (λ l. l.callsite == n) lives

-- a row of just these lives, where there are any
abbrev pub IsRowOfSome : List Life → Option Row → Type 0
IsRowOfSome lives found =
    MatchOption found (lives ≡ []) (λ row. (0 < length lives) × IsRowOf lives row)

-- each callsite of which a span closed has the row of its lives, and no other has a row; events are
-- counted by their callsites, as long as they are fewer than 2^64
pub record IsTimingOf (lives : List Life) (sent : List ℕ) (t : Timing) : Type 0 where
  pub rows : (n : ℕ) → IsRowOfSome (of_callsite n lives) (row_at n t)
  pub events : length sent < 2 ^ 64 → (n : ℕ) → events_at n t ≡ count_by (λ e. e == n) sent
