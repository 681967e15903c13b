-- How long a span was busy, idle and open, and how much happened.
use Rattle.std.specs.Prelude.{◌≡◌, ◌<◌, IsTrue, ℕ, Bool, ◌+◌, ◌-◌, ◌^◌, ◌==◌, if◌then◌else◌, List, [], ◌∷◌, find, map, filter, true, false, min, Option, None, Some}
use Rattle.std.specs.Option.{option_and_then, option_map}
use Rattle.span_core.specs.Span.{number_of}
use Rattle.span_times.specs.Clock.{NeverGoBack}
use Rattle.span_times.specs.declared.happening.Happening.TheVariants.{Closed, Entered, Left, Opened, Sent}
use Rattle.span_times.specs.declared.happening.Happening.{Happening}
use Rattle.span_times.specs.declared.happening.Point.{Point}
use Rattle.span_times.specs.declared.measure.Part.TheVariants as part
use Rattle.span_times.specs.declared.measure.Part.{Part}

-- a sum, up to the greatest u64
abbrev pub capped : ℕ → ℕ
capped n = min n (2 ^ 64 - 1)

-- the span with this number opens, is entered or left, or closes
abbrev pub is_about : ℕ → Happening → Bool
is_about x (Opened id callsite parent) = number_of id == x
is_about x (Entered id) = number_of id == x
is_about x (Left id) = number_of id == x
is_about x (Closed id) = number_of id == x
is_about x other = false

-- a busy time begins with this
abbrev pub begins_busy : Happening → Bool
begins_busy (Entered id) = true
begins_busy other = false

-- a busy time ends with this
abbrev pub ends_busy : Happening → Bool
ends_busy (Left id) = true
ends_busy other = false

-- an idle time begins with this
abbrev pub begins_idle : Happening → Bool
begins_idle (Opened id callsite parent) = true
begins_idle (Left id) = true
begins_idle other = false

-- an idle time ends with this
abbrev pub ends_idle : Happening → Bool
ends_idle (Entered id) = true
ends_idle (Closed id) = true
ends_idle other = false

-- a span is busy from an entry to an exit
abbrev pub is_busy : Happening → Happening → Bool
is_busy from to = if begins_busy from then ends_busy to else false

-- a span is idle from its opening or an exit to an entry or its close
abbrev pub is_idle : Happening → Happening → Bool
is_idle from to = if begins_idle from then ends_idle to else false

-- a time of this part lies between the two
abbrev pub is_gap : Part → Happening → Happening → Bool
is_gap part.Busy from to = is_busy from to
is_gap part.Idle from to = is_idle from to

-- the time from the last point to this one, where such a gap lies between them
abbrev pub gap : (Happening → Happening → Bool) → Option Point → Point → ℕ
gap lies None p = 0
gap lies (Some last) p = if lies last.what p.what then p.time - last.time else 0

-- the sum of such gaps between each point of a span and its next one, where this point of it came
-- last
abbrev pub spent : (Happening → Happening → Bool) → ℕ → Option Point → List Point → ℕ
spent lies x last [] = 0
spent lies x last (p ∷ ps) =
    if is_about x p.what then gap lies last p + spent lies x (Some p) ps
    else spent lies x last ps

-- how long a span was busy: the time from each entry to an exit that comes next
abbrev pub busy_in : List Point → ℕ → ℕ
busy_in ps x = capped (spent is_busy x None ps)

-- how long a span was idle: the time from its opening or each exit to an entry or a close that
-- comes next
abbrev pub idle_in : List Point → ℕ → ℕ
idle_in ps x = capped (spent is_idle x None ps)

-- the span with this number opens
abbrev pub opens : ℕ → Happening → Bool
opens x (Opened id callsite parent) = number_of id == x
opens x other = false

-- the span with this number closes
abbrev pub closes : ℕ → Happening → Bool
closes x (Closed id) = number_of id == x
closes x other = false

-- what was found, or this point and those behind it where it opens the span
abbrev pub found_or : ℕ → Point → List Point → List Point → List Point
found_or x p rest [] = if opens x p.what then p ∷ rest else []
found_or x p rest (f ∷ found) = f ∷ found

-- the points from the last on that opens this span; none where none does
abbrev pub since_opening : ℕ → List Point → List Point
since_opening x [] = []
since_opening x (p ∷ ps) = found_or x p ps (since_opening x ps)

-- when the first of such things happened, if any did
abbrev pub first_time : (Happening → Bool) → List Point → Option ℕ
first_time is ps = option_map (λ p. p.time) (find (λ p. is p.what) ps)

-- how long a span was open, if it opened and closed
abbrev pub open_in : List Point → ℕ → Option ℕ
open_in ps x =
    option_and_then (λ from. option_map (λ to. to - from) (first_time (closes x) ps))
    (first_time (opens x) ps)

-- some span opens
abbrev pub is_opening : Happening → Bool
is_opening (Opened id callsite parent) = true
is_opening other = false

-- some span closes
abbrev pub is_close : Happening → Bool
is_close (Closed id) = true
is_close other = false

-- an event is sent
abbrev pub is_event : Happening → Bool
is_event (Sent callsite parent) = true
is_event other = false

-- in how many points something of this kind happened
abbrev pub count_in : (Happening → Bool) → List Point → ℕ
count_in is [] = 0
count_in is (p ∷ ps) = (if is p.what then 1 else 0) + count_in is ps

-- the points of a span that nobody is in: it is entered and left, and so on, and closes
abbrev pub TakesTurns : ℕ → List Point → Type 0
TakesTurns x [] = ⊥
TakesTurns x (p ∷ []) = IsTrue (closes x p.what)
TakesTurns x (p ∷ q ∷ ps) = IsTrue (is_busy p.what q.what) × TakesTurns x ps

-- the points of a span: it opens, is entered and left in turns, and closes
abbrev pub LivesInTurns : ℕ → List Point → Type 0
LivesInTurns x [] = ⊥
LivesInTurns x (p ∷ ps) = IsTrue (opens x p.what) × TakesTurns x ps

-- a span that lived in turns was busy or idle as long as it was open, if time never went back
abbrev pub BusyAndIdleAreOpen : Type 0
BusyAndIdleAreOpen =
    (points : List Point) (x whole : ℕ)
    → LivesInTurns x (filter (λ p. is_about x p.what) points)
    → NeverGoBack 0 (map (λ p. p.time) points) → open_in points x ≡ Some whole → whole < 2 ^ 64
    → busy_in points x + idle_in points x ≡ whole
