-- Spans that closed, and events that were sent.
use Rattle.std.specs.Prelude.{ℕ, if◌then◌else◌, List, [], ◌∷◌, ◌++◌, Option, None, Some, unwrap_or}
use Rattle.std.specs.Option.{option_map, option_to_list}
use Rattle.std.specs.List.{filter_map}
use Rattle.span_core.specs.Span.{number_of}
use Rattle.span_times.specs.Measure.{busy_in, idle_in, open_in, opens}
use Rattle.span_times.specs.declared.happening.Happening.TheVariants.{Closed, Opened, Sent}
use Rattle.span_times.specs.declared.happening.Happening.{Happening}
use Rattle.span_times.specs.declared.happening.Point.{Point}
use Rattle.span_timing.specs.declared.life.Life.{Life}

-- what was found, or this point and those behind it where it opens the span
abbrev pub found_or : ℕ → Point → List Point → List Point → List Point
found_or x p rest [] = if opens x p.what then p ∷ rest else []
found_or x p rest (f ∷ found) = f ∷ found

-- the points from the last on that opens this span; none where none does
abbrev pub since_opening : ℕ → List Point → List Point
since_opening x [] = []
since_opening x (p ∷ ps) = found_or x p ps (since_opening x ps)

-- the callsite that a span is opened by
abbrev pub opened_by : Happening → Option ℕ
opened_by (Opened id callsite parent) = Some callsite
opened_by other = None

-- the callsite that opens a span at the first of these points
abbrev pub opener : List Point → Option ℕ
opener [] = None
opener (p ∷ ps) = opened_by p.what

-- how long a span was busy, idle and open, by its points since its opening
abbrev pub life_since : List Point → ℕ → Option Life
life_since lived x =
    option_map (λ callsite. record {
      callsite = callsite;
      busy = busy_in lived x;
      idle = idle_in lived x;
      «open» = unwrap_or (open_in lived x) 0;
    }) (opener lived)

-- the life of a span by these points, of which the last closes it; none where none opens it
abbrev pub life_in : List Point → ℕ → Option Life
life_in ps x = life_since (since_opening x ps) x

-- the life that ends by what happened at the last of these points, if one does
abbrev pub life_ended : List Point → Happening → Option Life
life_ended ps (Closed id) = life_in ps (number_of id)
life_ended ps other = None

-- the lives that end at these points, behind those before them
abbrev pub lives_from : List Point → List Point → List Life
lives_from before [] = []
lives_from before (p ∷ rest) =
    option_to_list (life_ended (before ++ p ∷ []) p.what) ++ lives_from (before ++ p ∷ []) rest

-- the lives that end at these points, in the order of their ends
abbrev pub lives_of : List Point → List Life
lives_of ps = lives_from [] ps

-- the callsite of an event that is sent
abbrev pub event_sent : Happening → Option ℕ
event_sent (Sent callsite span) = Some callsite
event_sent other = None

-- the callsites of the events that are sent, in their order
abbrev pub events_of : List Point → List ℕ
events_of ps = filter_map (λ p. event_sent p.what) ps
