-- Which points are over: their span has closed, or they are in none.
use Rattle.std.specs.Prelude.{◌≡◌, ◌+◌, ℕ, Bool, false, true, if◌then◌else◌, not, List, [], ◌∷◌, Option, Some, filter, fold, length, map}
use Rattle.std.specs.Option.{option_map, option_map_or}
use Rattle.span_core.specs.Span.{number_of}
use Rattle.span_times.specs.Field.{FieldSaid, kept_in, range_of, within}
use Rattle.span_times.specs.Kept.{KeptState, point_at}
use Rattle.span_times.specs.Measure.{closes, is_opening, opens}
use Rattle.span_times.specs.Site.{sites_said}
use Rattle.span_times.specs.declared.happening.Happening.TheVariants.{Closed, Entered, Followed, Left, Opened, Recorded, Renamed, Sent}
use Rattle.span_times.specs.declared.happening.Happening.{Happening}
use Rattle.span_times.specs.declared.happening.Point.{Point}
use Rattle.span_times.specs.declared.kept.Taken.{Taken}

-- the number of the span that something happened to, or in which it was sent, if there is one
abbrev pub own_span : Happening → Option ℕ
own_span (Opened id callsite parent) = Some (number_of id)
own_span (Recorded id) = Some (number_of id)
own_span (Followed id other) = Some (number_of id)
own_span (Sent callsite span) = option_map number_of span
own_span (Entered id) = Some (number_of id)
own_span (Left id) = Some (number_of id)
own_span (Renamed id other) = Some (number_of id)
own_span (Closed id) = Some (number_of id)

-- whether the span with this number is closed after something happened, where it was so before
abbrev pub closed_after : ℕ → Bool → Happening → Bool
closed_after x before h = if closes x h then true else if opens x h then false else before

-- whether the span with this number is closed after points: it closed, and didn't open since
abbrev pub is_closed_in : List Point → ℕ → Bool
is_closed_in ps x = fold (λ closed p. closed_after x closed p.what) false ps

-- whether something is over, where these spans are closed: its span is, or it has none
abbrev pub is_over : (ℕ → Bool) → Happening → Bool
is_over closed h = option_map_or closed (own_span h) true

-- what a point says: when, on which lane and what happened, and the fields that it came with
pub record PointSaid : Type 0 where
  pub time : ℕ
  pub lane : ℕ
  pub what : Happening
  pub fields : List FieldSaid

-- what points say, in their order, where these fields were kept
abbrev pub points_said : List FieldSaid → List Point → List PointSaid
points_said kept ps =
    map (λ p. record {
      time = p.time;
      lane = p.lane.0;
      what = p.what;
      fields = within p.fields kept;
    }) ps

-- the openings among what happened at points
abbrev pub openings_in : List Point → List Happening
openings_in ps = filter is_opening (map (λ p. p.what) ps)

-- whether something goes with what is over, or with the rest, where these spans are closed
abbrev pub goes_with : Bool → (ℕ → Bool) → Happening → Bool
goes_with over closed h = if over then is_over closed h else not (is_over closed h)

-- those of these that go with what is over, or with the rest, where these spans are closed
abbrev pub picked : Bool → (ℕ → Bool) → List PointSaid → List PointSaid
picked over closed ss = filter (λ s. goes_with over closed s.what) ss

-- points that say this, with their fields one after the other behind so many others
abbrev pub points_for : ℕ → List PointSaid → List Point
points_for from [] = []
points_for from (s ∷ ss) =
    let count = length s.fields in
    point_at s.time s.lane s.what (range_of from count) ∷ points_for (from + count) ss

-- what is kept is handed out where it is over, and stays where it isn't: each point goes one way,
-- in order and with the fields that it came with. All sites and the openings that stay are handed
-- out, and stay
pub record HandsOutFinished (taken : Taken) (x y : KeptState) : Type 0 where
  pub over : points_said (kept_in taken.fields.items) taken.points.items
      ≡ picked true (is_closed_in x.points) (points_said x.fields x.points)
  pub rest : points_said y.fields y.points
      ≡ picked false (is_closed_in x.points) (points_said x.fields x.points)
  pub above : taken.above.items ≡ openings_in y.points
  pub named : sites_said taken.sites.items ≡ x.sites
  pub sites : y.sites ≡ x.sites
