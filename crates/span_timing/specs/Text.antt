-- A table of how often spans and events came, and how long spans took.
use Rattle.std.specs.Prelude.{ℕ, ◌==◌, if◌then◌else◌, not, List, [], ◌∷◌, ◌++◌, None, Option, Some, codes, decimal, filter, find, flat_map, map, string_bytes}
use Rattle.std.specs.Option.{option_map_or}
use Rattle.span_fmt.specs.Escape.{escaped}
use Rattle.span_times.specs.Measure.{capped}
use Rattle.span_times.specs.declared.site.Site.{Site}
use Rattle.span_timing.specs.Histogram.{counted, most_in, quantile_in}
use Rattle.span_timing.specs.Layout.{Line, laid_out}
use Rattle.span_timing.specs.Timing.{event_callsites, events_at, row_at, span_callsites}
use Rattle.span_timing.specs.Unit.{time_text}
use Rattle.span_timing.specs.declared.histogram.Histogram.{Histogram}
use Rattle.span_timing.specs.declared.timing.Row.{Row}
use Rattle.span_timing.specs.declared.timing.Timing.{Timing}

-- these numbers, each once, where it stands first
abbrev pub each_once : List ℕ → List ℕ
each_once [] = []
each_once (n ∷ ns) = n ∷ filter (λ m. not (m == n)) (each_once ns)

-- the callsites in a table's order: those of the sites, of spans that closed, of events
abbrev pub callsites_in : Timing → List Site → List ℕ
callsites_in t sites =
    each_once (map (λ s. s.callsite) sites ++ span_callsites t ++ event_callsites t)

-- the name and the target of a site, escaped; where there is none, two question marks
abbrev pub called_by : Option Site → Line
called_by None = codes "?" ∷ codes "?" ∷ []
called_by (Some s) = escaped (string_bytes s.name) ∷ escaped (string_bytes s.target) ∷ []

-- what a callsite is called by the first site with its number
abbrev pub called : List Site → ℕ → Line
called sites n = called_by (find (λ s. s.callsite == n) sites)

-- what times these are, up to which of them lie 50, 90 and 99 percent, and the most
abbrev pub times_cells : List ℕ → Histogram → Line
times_cells part h =
    part ∷ map (λ percent. time_text (quantile_in percent 100 h)) (50 ∷ 90 ∷ 99 ∷ [])
    ++ time_text (most_in h) ∷ []

-- a line under another, which has the name, the target and the count
abbrev pub further_line : List ℕ → Histogram → Line
further_line part h = ([] ∷ [] ∷ [] ∷ []) ++ times_cells part h

-- the lines of a callsite of which spans closed: how often, and how long they were open, busy, idle
abbrev pub span_lines : List Site → ℕ → Row → List Line
span_lines sites n row =
    (called sites n ++ decimal (capped (counted row.open)) ∷ times_cells (codes "open") row.open)
    ∷ further_line (codes "busy") row.busy ∷ further_line (codes "idle") row.idle ∷ []

-- the line of a callsite that sent so many events
abbrev pub event_lines : List Site → ℕ → ℕ → List Line
event_lines sites n count =
    if count == 0 then [] else (called sites n ++ decimal count ∷ []) ∷ []

-- what the columns of spans are called
abbrev pub span_words : Line
span_words =
    codes "span" ∷ codes "target" ∷ codes "count" ∷ codes "time" ∷ codes "50%" ∷ codes "90%"
    ∷ codes "99%" ∷ codes "most" ∷ []

-- what the columns of events are called
abbrev pub event_words : Line
event_words = codes "event" ∷ codes "target" ∷ codes "count" ∷ []

-- what the columns of spans are called, and below it the lines of these callsites' spans; then the
-- same of events
abbrev pub lines_of : Timing → List Site → List ℕ → List Line
lines_of t sites callsites =
    span_words ∷ flat_map (λ n. option_map_or (span_lines sites n) (row_at n t) []) callsites
    ++ event_words ∷ flat_map (λ n. event_lines sites n (events_at n t)) callsites

-- the table
abbrev pub timing_text : Timing → List Site → List ℕ
timing_text t sites = laid_out (lines_of t sites (callsites_in t sites))
