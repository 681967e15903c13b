-- All sums together.
use Rattle.std.proofs.Common.{arith, ◌≡◌, ◌∙◌, ◌<◌, ◌+◌, ◌^◌, ◌==◌, ◌&&◌, ℕ, Bool, true, false, if◌then◌else◌, not, List, [], ◌∷◌, ◌++◌}
use Rattle.std.proofs.Common.{Option, None, Some, fold, refl, sum_by, sym}
use Rattle.std.proofs.lemmas.List.Sums.{sum_by-cons}
use Rattle.std.specs.Cmp.Lexicographic.{slice_cmp}
use Rattle.std.specs.List.{list_any}
use Rattle.std.specs.Option.{option_map_or}
use Rattle.std.specs.Ordering.{match_ordering, nat_cmp}
use Rattle.std.specs.declared.cmp.Ordering.{Ordering}
use Rattle.std.specs.declared.cmp.Ordering.TheVariants.{Equal, Greater, Less}
use Rattle.span_core.specs.Span.{number_of}
use Rattle.span_times.specs.Measure.{capped}
use Rattle.span_times.specs.declared.happening.Happening.TheVariants.{Closed, Entered, Followed, Left, Opened, Recorded, Renamed, Sent}
use Rattle.span_times.specs.declared.happening.Happening.{Happening}
use Rattle.span_times.specs.declared.happening.Point.{Point}
use Rattle.span_export.specs.Entry.{is_on, lasting, newest_span, spans_in, with_span}
use Rattle.span_export.specs.Folded.{LinesHaveAllTime, Sums, add, in_spans, stack_text, stood, stood_in, sums_from, time_from}
use Rattle.span_export.specs.Scope.{opened_by, scope_of, scope_on}
use Rattle.span_export.specs.Site.{Named, named_in}
use Rattle.span_export.specs.declared.entry.Entry.{Entry}

total : Sums → ℕ
total sums = sum_by (λ s. s.1) sums

first : (s : List ℕ × ℕ) (sums : Sums) → total (s ∷ sums) ≡ s.1 + total sums
unfolding total
first s sums = sum_by-cons (λ s. s.1) s sums

-- one sum is raised
raised : (o : Ordering) (stack : List ℕ) (time : ℕ) (s : List ℕ × ℕ) (sums : Sums)
    → total (s ∷ sums) + time < 2 ^ 64 → total (add stack time sums) ≡ total sums + time
    → total (match_ordering o ((stack, capped time) ∷ s ∷ sums) ((s.0, capped (s.1 + time)) ∷ sums) (s ∷ add stack time sums)) ≡ total (s ∷ sums) + time
raised Less stack time s sums fits rest = omega (arith, first (stack, capped time) (s ∷ sums))
raised Equal stack time s sums fits rest = omega (arith, first s sums, first (s.0, capped (s.1 + time)) sums)
raised Greater stack time s sums fits rest = omega (arith, first s sums, first s (add stack time sums))

added : (stack : List ℕ) (time : ℕ) (sums : Sums) → total sums + time < 2 ^ 64 → total (add stack time sums) ≡ total sums + time
added stack time [] fits = omega (arith, first (stack, capped time) [])
added stack time (s ∷ sums) fits =
    let all = first s sums in
    raised (slice_cmp nat_cmp stack s.0) stack time s sums fits (added stack time sums (omega arith))

one_point : (named : ℕ → Named) (stack : List ℕ) (time : ℕ) (sums : Sums)
    → total sums + in_spans stack time < 2 ^ 64 → total (stood_in named stack time sums) ≡ total sums + in_spans stack time
one_point named [] time sums fits = omega arith
one_point named (x ∷ stack) time sums fits = added (stack_text named (x ∷ stack)) time sums fits

-- such stacks have some span just where the lanes have entered some
abbrev AreEnteredAlike : (ℕ → List Entry → List ℕ) → Type 0
AreEnteredAlike stack = (lane time : ℕ) (es : List Entry) → in_spans (stack lane es) time ≡ in_spans (spans_in lane es) time

-- sums so far and what the points to come add
whole : (named : ℕ → Named) (stack : ℕ → List Entry → List ℕ) (alike : AreEnteredAlike stack) (sums : Sums) (before rest : List Point)
    → total sums + time_from before rest < 2 ^ 64 → total (sums_from named stack sums before rest) ≡ total sums + time_from before rest
whole named stack alike sums before [] fits = omega arith
whole named stack alike sums before (p ∷ rest) fits =
    let here = stack p.lane.0 (lasting before) in
    let next = stood_in named here (stood before p) sums in
    let same = alike p.lane.0 (stood before p) (lasting before) in
    let added : total next ≡ total sums + in_spans here (stood before p) = one_point named here (stood before p) sums (omega arith) in
    whole named stack alike next (before ++ p ∷ []) rest (omega arith) ∙ omega arith

-- a scope has the span itself
one_scope : (is : Bool) (above old : List ℕ) (x time : ℕ)
    → in_spans old time ≡ time → in_spans (if is then above ++ x ∷ [] else old) time ≡ time
one_scope true [] old x time so_far = refl
one_scope true (y ∷ above) old x time so_far = refl
one_scope false above old x time so_far = so_far

some_opened : (scopes : ℕ → List ℕ) (h : Happening) (x time : ℕ)
    → ((y : ℕ) → in_spans (scopes y) time ≡ time) → in_spans (opened_by scopes h x) time ≡ time
some_opened scopes (Opened id callsite parent) x time so_far =
    one_scope (number_of id == x) (option_map_or (λ i. scopes (number_of i)) parent []) (scopes x) x time (so_far x)
some_opened scopes (Recorded id) x time so_far = so_far x
some_opened scopes (Followed id other) x time so_far = so_far x
some_opened scopes (Sent callsite parent) x time so_far = so_far x
some_opened scopes (Entered id) x time so_far = so_far x
some_opened scopes (Left id) x time so_far = so_far x
some_opened scopes (Renamed id other) x time so_far = so_far x
some_opened scopes (Closed id) x time so_far = so_far x

some_scope : (scopes : ℕ → List ℕ) (ps : List Point) (x time : ℕ)
    → ((y : ℕ) → in_spans (scopes y) time ≡ time) → in_spans (fold (λ scopes p. opened_by scopes p.what) scopes ps x) time ≡ time
some_scope scopes [] x time so_far = so_far x
some_scope scopes (p ∷ ps) x time so_far = some_scope (opened_by scopes p.what) ps x time (λ y. some_opened scopes p.what y time so_far)

-- a lane has a newest entry just where it has entered some span
still_some : (is : Bool) (x y time : ℕ) (ys : List ℕ) → in_spans (if not is then y ∷ ys ++ x ∷ [] else y ∷ ys) time ≡ time
still_some true x y time ys = refl
still_some false x y time ys = refl

one_entry : (scopes : ℕ → List ℕ) (time : ℕ) (some : (y : ℕ) → in_spans (scopes y) time ≡ time) (on : Bool) (xs : List ℕ) (newest : Option ℕ) (x : ℕ)
    → in_spans (option_map_or scopes newest []) time ≡ in_spans xs time
    → in_spans (option_map_or scopes (if on then Some x else newest) []) time
    ≡ in_spans (if on && not (list_any (λ y. y == x) xs) then xs ++ x ∷ [] else xs) time
one_entry scopes time some false xs newest x so_far = so_far
one_entry scopes time some true [] newest x so_far = some x
one_entry scopes time some true (y ∷ ys) newest x so_far = some x ∙ sym (still_some (list_any (λ z. z == x) (y ∷ ys)) x y time ys)

all_entries : (scopes : ℕ → List ℕ) (lane time : ℕ) (some : (y : ℕ) → in_spans (scopes y) time ≡ time) (xs : List ℕ) (newest : Option ℕ) (es : List Entry)
    → in_spans (option_map_or scopes newest []) time ≡ in_spans xs time
    → in_spans (option_map_or scopes (fold (λ newest e. if is_on lane e then Some (number_of e.span) else newest) newest es) []) time
    ≡ in_spans (fold (with_span lane) xs es) time
all_entries scopes lane time some xs newest [] so_far = so_far
all_entries scopes lane time some xs newest (e ∷ es) so_far =
    all_entries scopes lane time some (with_span lane xs e) (if is_on lane e then Some (number_of e.span) else newest) es
    (one_entry scopes time some (is_on lane e) xs newest (number_of e.span) so_far)

scoped_alike : (ps : List Point) → AreEnteredAlike (scope_on (scope_of ps))
scoped_alike ps lane time es =
    all_entries (scope_of ps) lane time (λ y. some_scope (λ x. x ∷ []) ps y time (λ z. refl)) [] None es refl

pub lines_have_all_time : LinesHaveAllTime
unfolding total
lines_have_all_time table ps fits = (
  whole (named_in table ps) spans_in (λ lane time es. refl) [] [] ps (omega arith) ∙ omega arith,
  whole (named_in table ps) (scope_on (scope_of ps)) (scoped_alike ps) [] [] ps (omega arith) ∙ omega arith,
)
