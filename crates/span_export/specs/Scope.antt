-- Spans with the spans above them, by their openings.
use Rattle.std.specs.Prelude.{ℕ, ◌==◌, if◌then◌else◌, List, [], ◌∷◌, ◌++◌, fold}
use Rattle.std.specs.Option.{option_map_or}
use Rattle.span_core.specs.Span.{number_of}
use Rattle.span_export.specs.Entry.{newest_span}
use Rattle.span_export.specs.declared.entry.Entry.{Entry}
use Rattle.span_times.specs.declared.happening.Happening.TheVariants.{Opened}
use Rattle.span_times.specs.declared.happening.Happening.{Happening}
use Rattle.span_times.specs.declared.happening.Point.{Point}

-- spans' scopes after something happened: that of a span that opens is its parent's, if it has one,
-- and behind it the span
abbrev pub opened_by : (ℕ → List ℕ) → Happening → ℕ → List ℕ
opened_by scopes (Opened id callsite parent) x =
    if number_of id == x
    then option_map_or (λ i. scopes (number_of i)) parent [] ++ x ∷ [] else scopes x
opened_by scopes other x = scopes x

-- a span's scope: the spans down to it, outermost first, by the openings among points; one that
-- isn't opened there stands alone
abbrev pub scope_of : List Point → ℕ → List ℕ
scope_of ps = fold (λ scopes p. opened_by scopes p.what) (λ x. x ∷ []) ps

-- the scope of the span of a lane's newest entry, and nothing where it has none
abbrev pub scope_on : (ℕ → List ℕ) → ℕ → List Entry → List ℕ
scope_on scopes lane es = option_map_or scopes (newest_span lane es) []
