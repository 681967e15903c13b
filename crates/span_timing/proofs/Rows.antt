-- Rows of histograms.
use Rattle.std.proofs.Common.{◌≡◌, ◌∙◌, ℕ, List, [], ◌∷◌, ◌++◌, None, Option, Some, ap, ltb, map, subst, sym, if◌then◌else◌}
use Rattle.std.proofs.lemmas.List.{map-append}
use Rattle.std.specs.List.{sum_by}
use Rattle.std.specs.Option.{IsSomeAnd, MatchOption}
use Rattle.span_timing.specs.Histogram.{IsOf, IsSame}
use Rattle.span_timing.specs.Row.{IsRowOf, IsSameRow}
use Rattle.span_timing.specs.Timing.{IsRowOfSome}
use Rattle.span_timing.specs.declared.histogram.Histogram.{Histogram}
use Rattle.span_timing.specs.declared.life.Life.{Life}
use Rattle.span_timing.specs.declared.timing.Row.{Row}

-- one more time of a part is added
pub part_more : (f : Life → ℕ) (lives : List Life) (life : Life) (h g : Histogram)
    → ((times : List ℕ) → IsOf times h → IsOf (times ++ f life ∷ []) g) → IsOf (map f lives) h → IsOf (map f (lives ++ life ∷ [])) g
part_more f lives life h g step was =
    let P : List ℕ → Type 0 = λ ts. IsOf ts g in
    subst P (sym (map-append f lives (life ∷ []))) (step (map f lives) was)

-- a histogram with the same counts is of the same times
pub same_times : (times : List ℕ) (h g : Histogram) → IsSame h g → IsOf times h → IsOf times g
same_times times h g same was = λ fits.
    let counts = was fits in
    record {
      below = λ end. ap (λ es. sum_by (λ (e : ℕ × ℕ). if ltb e.0 end then e.1 else 0) es) same.counts ∙ counts.below end;
      all = ap (λ es. sum_by (λ (e : ℕ × ℕ). e.1) es) same.counts ∙ counts.all;
      most = same.most ∙ counts.most;
    }

-- a copy of a row is of the same lives
pub same_row : (lives : List Life) (row copy : Row) → IsSameRow row copy → IsRowOf lives row → IsRowOf lives copy
same_row lives row copy same was = record {
  busy = same_times (map (λ l. l.busy) lives) row.busy copy.busy same.busy was.busy;
  idle = same_times (map (λ l. l.idle) lives) row.idle copy.idle same.idle was.idle;
  «open» = same_times (map (λ l. l.open) lives) row.open copy.open same.open was.open;
}

-- so is the copy of a row, if there is one
pub copied_row : (lives : List Life) (found copy : Option Row) → MatchOption found (copy ≡ None) (λ row. IsSomeAnd copy (IsSameRow row))
    → IsRowOfSome lives found → IsRowOfSome lives copy
copied_row lives None copy none was = let P : Option Row → Type 0 = λ o. IsRowOfSome lives o in subst P (sym none) was
copied_row lives (Some row) None some was = absurd some
copied_row lives (Some row) (Some copy) some was = (was.0, same_row lives row copy some was.1)
