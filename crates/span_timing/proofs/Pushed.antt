-- Lines pushed behind others.
use Rattle.std.proofs.Common.{◌≡◌, ◌∙◌, List, [], ◌∷◌, ◌++◌, Global, String, ap}
use Rattle.std.proofs.lemmas.List.{map-append}
use Rattle.std.specs.declared.vec.Vec.{Vec}
use Rattle.span_timing.specs.Layout.{Line}
use Rattle.span_timing.specs.private.Cells.{cells_in, lines_in}

-- a line with these cells behind others
pub pushed : (old new : List (Vec (String Global) Global)) (line : Vec (String Global) Global) (cells : Line)
    → new ≡ old ++ line ∷ [] → cells_in line.items ≡ cells → lines_in new ≡ lines_in old ++ cells ∷ []
pushed old new line cells push has =
    ap lines_in push ∙ map-append (λ v. cells_in v.items) old (line ∷ []) ∙ ap (λ cs. lines_in old ++ cs ∷ []) has
