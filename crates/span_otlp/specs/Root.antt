-- The root spans, which others are below.
use Rattle.std.specs.Prelude.{◌==◌, ℕ, if◌then◌else◌, List, ◌++◌, Option, fold, map}
use Rattle.std.specs.Option.{option_map_or}
use Rattle.span_core.specs.Span.{number_of}
use Rattle.span_times.specs.declared.happening.Happening.TheVariants.{Opened}
use Rattle.span_times.specs.declared.happening.Happening.{Happening}
use Rattle.span_times.specs.declared.happening.Point.{Point}
use Rattle.span_times.specs.declared.kept.Table.{Table}

-- the roots of spans after something happened, by those before: a span that opens below a parent
-- has the parent's root, and one without is a root
abbrev pub root_after : Happening → (ℕ → ℕ) → ℕ → ℕ
root_after (Opened id callsite parent) root x =
    if number_of id == x then option_map_or (λ p. root (number_of p)) parent x else root x
root_after other root x = root x

-- the root that a span is below by what happened; one whose opening isn't known is a root
abbrev pub root_in : List Happening → ℕ → ℕ
root_in hs = fold (λ root h. root_after h root) (λ x. x) hs

-- what is known of spans by points: what opened above them, and what happened there
abbrev pub known_of : Table → List Point → List Happening
known_of table ps = table.above.now ++ map (λ p. p.what) ps
