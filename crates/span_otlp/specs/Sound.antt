-- What can happen to spans.
use Rattle.std.specs.Prelude.{◌≡◌, ℕ, Bool, false, true, List, [], ◌∷◌, ◌++◌, MatchOption, Some, fold, ⊤}
use Rattle.std.specs.List.{Contains, list_any}
use Rattle.span_core.specs.Span.{number_of}
use Rattle.span_core.specs.declared.span.Id.{Id}
use Rattle.span_times.specs.Finished.{closed_after}
use Rattle.span_times.specs.Measure.{opens}
use Rattle.span_times.specs.declared.happening.Happening.TheVariants.{Closed, Opened}
use Rattle.span_times.specs.declared.happening.Happening.{Happening}

-- the span with this number opened
abbrev pub has_opened : List Happening → ℕ → Bool
has_opened hs x = list_any (opens x) hs

-- the span with this number closed, and didn't open since
abbrev pub has_closed : List Happening → ℕ → Bool
has_closed hs x = fold (closed_after x) false hs

-- the span with this number opened, and didn't close since
abbrev pub IsOpen : List Happening → ℕ → Type 0
IsOpen hs x = (has_opened hs x ≡ true) × (has_closed hs x ≡ false)

-- what can happen behind this: a span opens that didn't before, and below one that is open, if it
-- has a parent; an open span closes once those below it have
abbrev pub CanHappen : List Happening → Happening → Type 0
CanHappen before (Opened id callsite parent) =
    (has_opened before (number_of id) ≡ false)
    × MatchOption parent ⊤ (λ p. IsOpen before (number_of p))
CanHappen before (Closed id) =
    IsOpen before (number_of id)
    × ((child : Id) (callsite : ℕ) → Contains before (Opened child callsite (Some id))
    → has_closed before (number_of child) ≡ true)
CanHappen before other = ⊤

-- each of these can happen behind those before it, which come behind others
abbrev pub CanFollow : List Happening → List Happening → Type 0
CanFollow before [] = ⊤
CanFollow before (h ∷ hs) = CanHappen before h × CanFollow (before ++ h ∷ []) hs

-- all of this can happen from the beginning on; a registry makes no other happenings, though no
-- clause says so
abbrev pub AreSound : List Happening → Type 0
AreSound hs = CanFollow [] hs
