-- Points as folded stacks, of which flame graphs are made.
use Rattle.std.specs.Prelude.{◌≡◌, ◌<◌, ◌+◌, ◌-◌, ◌^◌, ◌==◌, ℕ, if◌then◌else◌, List, [], ◌∷◌, ◌++◌, codes, decimal, flat_map, fold, length, map, sum_by}
use Rattle.std.specs.Cmp.Lexicographic.{slice_cmp}
use Rattle.std.specs.Ordering.{match_ordering, nat_cmp}
use Rattle.span_fmt.specs.Escape.{escaped}
use Rattle.span_times.specs.Measure.{capped}
use Rattle.span_times.specs.declared.happening.Point.{Point}
use Rattle.span_times.specs.declared.kept.Table.{Table}
use Rattle.span_export.specs.Entry.{lasting, spans_in}
use Rattle.span_export.specs.Escape.{replace}
use Rattle.span_export.specs.Given.{given_shown}
use Rattle.span_export.specs.Scope.{scope_of, scope_on}
use Rattle.span_export.specs.Site.{Named, called, named_in}
use Rattle.span_export.specs.declared.entry.Entry.{Entry}

-- names with semicolons between
abbrev pub frames_text : List (List ℕ) → List ℕ
frames_text [] = []
frames_text (name ∷ names) = name ++ flat_map (λ n. codes ";" ++ n) names

-- a name, escaped; an empty one as no other is written
abbrev pub frame_name : List ℕ → List ℕ
frame_name name = if length name == 0 then codes "\\u{}" else escaped name

-- a span as a frame: its name and what it was given, a semicolon escaped as well, and _ for each
-- space
abbrev pub stack_frame : Named → List ℕ
stack_frame site =
    replace 32 (codes "_")
    (replace 59 (codes "\\u{3b}") (frame_name (called site) ++ given_shown site.given))

-- a stack as text: its spans as frames, outermost first
abbrev pub stack_text : (ℕ → Named) → List ℕ → List ℕ
stack_text named stack = frames_text (map (λ x. stack_frame (named x)) stack)

-- when the last point of a lane was
abbrev pub last_time : ℕ → List Point → ℕ
last_time lane ps = fold (λ time p. if p.lane.0 == lane then p.time else time) 0 ps

-- how long a lane stood as it was, up to this point of it
abbrev pub stood : List Point → Point → ℕ
stood before p = p.time - last_time p.lane.0 before

-- stacks as texts, in the order of these, and how long lanes stood so
abbrev pub Sums : Type 0
Sums = List (List ℕ × ℕ)

-- the sums with so much more at this stack
abbrev pub add : List ℕ → ℕ → Sums → Sums
add stack time [] = (stack, capped time) ∷ []
add stack time (s ∷ sums) =
    match_ordering (slice_cmp nat_cmp stack s.0) ((stack, capped time) ∷ s ∷ sums)
    ((s.0, capped (s.1 + time)) ∷ sums) (s ∷ add stack time sums)

-- the sums with so much more at the stack of a lane, if the lane is in some span
abbrev pub stood_in : (ℕ → Named) → List ℕ → ℕ → Sums → Sums
stood_in named [] time sums = sums
stood_in named (x ∷ stack) time sums = add (stack_text named (x ∷ stack)) time sums

-- each of these points adds how long its lane stood in its stack up to there, as this has it; these
-- stand before them
abbrev pub sums_from
    : (ℕ → Named) → (ℕ → List Entry → List ℕ) → Sums → List Point → List Point → Sums
sums_from named stack sums before [] = sums
sums_from named stack sums before (p ∷ rest) =
    sums_from named stack
    (stood_in named (stack p.lane.0 (lasting before)) (stood before p) sums) (before ++ p ∷ []) rest

-- how long lanes stood in each stack, with these fields
abbrev pub sums_of : (ℕ → List Entry → List ℕ) → Table → List Point → Sums
sums_of stack table ps = sums_from (named_in table ps) stack [] [] ps

-- a stack, and behind a space how long
abbrev pub line_text : List ℕ × ℕ → List ℕ
line_text s = s.0 ++ codes " " ++ decimal s.1 ++ codes "\n"

-- a line for each stack of spans that a lane entered
abbrev pub folded : Table → List Point → List ℕ
folded table ps = flat_map line_text (sums_of spans_in table ps)

-- a line for each scope that a lane was in
abbrev pub scopes_folded : Table → List Point → List ℕ
scopes_folded table ps = flat_map line_text (sums_of (scope_on (scope_of ps)) table ps)

-- a time that counts where a lane is in some span
abbrev pub in_spans : List ℕ → ℕ → ℕ
in_spans [] time = 0
in_spans (x ∷ stack) time = time

-- how long lanes were in some span, whichever, up to each of these points from the one of its lane
-- before; these stand before them
abbrev pub time_from : List Point → List Point → ℕ
time_from before [] = 0
time_from before (p ∷ rest) =
    in_spans (spans_in p.lane.0 (lasting before)) (stood before p)
    + time_from (before ++ p ∷ []) rest

-- how long lanes were in some span
abbrev pub time_in_spans : List Point → ℕ
time_in_spans ps = time_from [] ps

-- all lines together have all the time that lanes were in spans, whatever these are called, if it
-- fits: by entries and by scopes
abbrev pub LinesHaveAllTime : Type 0
LinesHaveAllTime =
    (table : Table) (ps : List Point) → time_in_spans ps < 2 ^ 64
    → (sum_by (λ s. s.1) (sums_of spans_in table ps) ≡ time_in_spans ps)
    × (sum_by (λ s. s.1) (sums_of (scope_on (scope_of ps)) table ps) ≡ time_in_spans ps)
