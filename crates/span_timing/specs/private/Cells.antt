-- Lines as the code has them.
use Rattle.std.specs.Prelude.{ℕ, String, List, map, string_bytes}
use Rattle.std.specs.Borrow.{Bor}
use Rattle.std.specs.declared.alloc.Global.{Global}
use Rattle.std.specs.declared.vec.Vec.{Vec}
use Rattle.span_timing.specs.Layout.{Line}

-- the texts of a line's cells
abbrev pub cells_in : List (String Global) → Line
cells_in cells = map string_bytes cells

-- the texts of lines' cells
abbrev pub lines_in : List (Vec (String Global) Global) → List Line
lines_in lines = map (λ line. cells_in line.items) lines

-- the texts of these words
abbrev pub words_in : List (Bor (List ℕ)) → Line
words_in words = map (λ word. word.now) words
