-- The last point that opens a span.
use Rattle.std.proofs.Common.{◌≡◌, ◌∙◌, ◌<◌, ◌+◌, ◌-◌, ℕ, zero, suc, true, List, [], ◌∷◌, ap, drop, get_or, length, sym, take, if◌then◌else◌}
use Rattle.std.proofs.lemmas.List.{drop_more, take_rest}
use Rattle.span_times.specs.Measure.{found_or, opens, since_opening}
use Rattle.span_times.specs.declared.happening.Point.{Point}

-- what is found behind some points is found among all
found_behind : (x i : ℕ) (ps : List Point) (f : Point) (found : List Point) → since_opening x (drop i ps) ≡ f ∷ found → since_opening x ps ≡ f ∷ found
found_behind x zero ps f found e = e
found_behind x (suc i) [] f found e = cc
found_behind x (suc i) (p ∷ ps) f found e = ap (found_or x p ps) (found_behind x i ps f found e)

-- a point that opens the span, and none behind it does
pub found_here : (x i : ℕ) (ps : List Point) (d : Point)
    → i < length ps → opens x (get_or ps i d).what ≡ true → since_opening x (drop (i + 1) ps) ≡ [] → take (length ps - i) (drop i ps) ≡ since_opening x ps
found_here x i ps d within here none =
    let split = drop_more ps i d within in
    let now : since_opening x (drop i ps) ≡ get_or ps i d ∷ drop (i + 1) ps =
    ap (since_opening x) split ∙ ap (found_or x (get_or ps i d) (drop (i + 1) ps)) none ∙ ap (λ b. if b then (get_or ps i d ∷ drop (i + 1) ps) else []) here in
    take_rest ps i ∙ split ∙ sym (found_behind x i ps (get_or ps i d) (drop (i + 1) ps) now)
