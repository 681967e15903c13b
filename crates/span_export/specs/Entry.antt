-- The entries of lanes into spans that last, by points.
use Rattle.std.specs.Prelude.{◌==◌, ◌&&◌, ℕ, Bool, if◌then◌else◌, not, List, [], ◌∷◌, ◌++◌, None, Option, Some, filter, fold, map}
use Rattle.std.specs.List.{list_any}
use Rattle.span_core.specs.Span.{number_of}
use Rattle.span_export.specs.declared.entry.Entry.{Entry}
use Rattle.span_times.specs.declared.happening.Happening.TheVariants.{Closed, Entered, Left}
use Rattle.span_times.specs.declared.happening.Happening.{Happening}
use Rattle.span_times.specs.declared.happening.Point.{Point}

-- an entry of this lane
abbrev pub is_on : ℕ → Entry → Bool
is_on lane e = e.lane.0 == lane

-- an entry into this span
abbrev pub is_into : ℕ → Entry → Bool
is_into x e = number_of e.span == x

-- an entry of this lane into this span
abbrev pub is_of : ℕ → ℕ → Entry → Bool
is_of lane x e = is_on lane e && is_into x e

-- the entries without the newest of a lane into a span
abbrev pub left : ℕ → ℕ → List Entry → List Entry
left lane x [] = []
left lane x (e ∷ es) =
    if list_any (is_of lane x) es then e ∷ left lane x es
    else if is_of lane x e then es else e ∷ es

-- the entries that last after what happened; a span that closes is left by that on each lane, since
-- no layer is notified of exits from it any more
abbrev pub entries_after : List Entry → Point → Happening → List Entry
entries_after es p (Entered id) = es ++ record { lane = p.lane; span = id } ∷ []
entries_after es p (Left id) = left p.lane.0 (number_of id) es
entries_after es p (Closed id) = filter (λ e. not (is_into (number_of id) e)) es
entries_after es p other = es

-- the entries that last after points, the oldest first
abbrev pub lasting : List Point → List Entry
lasting ps = fold (λ es p. entries_after es p p.what) [] ps

-- the entries from the newest of a lane into a span on, and none where there is none
abbrev pub since_newest : ℕ → ℕ → List Entry → List Entry
since_newest lane x [] = []
since_newest lane x (e ∷ es) =
    if list_any (is_of lane x) es then since_newest lane x es
    else if is_of lane x e then e ∷ es else []

-- the entries from the oldest of a lane into a span on, and none where there is none
abbrev pub since_oldest : ℕ → ℕ → List Entry → List Entry
since_oldest lane x [] = []
since_oldest lane x (e ∷ es) = if is_of lane x e then e ∷ es else since_oldest lane x es

-- the spans that a lane's entries among these are into
abbrev pub spans_on : ℕ → List Entry → List ℕ
spans_on lane es = map (λ e. number_of e.span) (filter (is_on lane) es)

-- the spans and that of an entry, if it is of this lane, and unless the span is there
abbrev pub with_span : ℕ → List ℕ → Entry → List ℕ
with_span lane xs e =
    if is_on lane e && not (list_any (λ x. x == number_of e.span) xs)
    then xs ++ number_of e.span ∷ [] else xs

-- the spans that a lane is in, outermost first, each once
abbrev pub spans_in : ℕ → List Entry → List ℕ
spans_in lane es = fold (with_span lane) [] es

-- the span of a lane's newest entry, if the lane has one
abbrev pub newest_span : ℕ → List Entry → Option ℕ
newest_span lane es =
    fold (λ newest e. if is_on lane e then Some (number_of e.span) else newest) None es
