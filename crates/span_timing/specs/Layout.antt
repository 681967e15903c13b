-- Lines of cells, with their columns below one another.
use Rattle.std.specs.Prelude.{ℕ, ◌-◌, ◌==◌, if◌then◌else◌, nat_lt, List, [], ◌++◌, codes, flat_map, length, map, replicate, slice_index_or}
use Rattle.std.specs.List.{enumerate_from}
use Rattle.std.specs.Str.{chars}
use Rattle.span_timing.specs.Histogram.{greatest}

-- the texts of a line's cells
abbrev pub Line : Type 0
Line = List (List ℕ)

-- how many characters a cell has
abbrev pub width_of : List ℕ → ℕ
width_of cell = length (chars cell)

-- how wide a column is: as wide as its widest cell
abbrev pub column_width : List Line → ℕ → ℕ
column_width lines k = greatest (map (λ line. width_of (slice_index_or line k [])) lines)

-- a cell, filled with spaces up to this width: behind a name or a target, which are the first two
-- columns, and in front of all else
abbrev pub filled : ℕ → ℕ → List ℕ → List ℕ
filled width k cell =
    let spaces = replicate (width - width_of cell) 32 in
    if nat_lt k 2 then cell ++ spaces else spaces ++ cell

-- what stands in front of a column: two spaces, but for the first
abbrev pub gap : ℕ → List ℕ
gap k = if k == 0 then [] else codes "  "

-- the cell of a column of this width
abbrev pub cell_text : ℕ → ℕ → List ℕ → List ℕ
cell_text width k cell = gap k ++ filled width k cell

-- a line whose columns are as wide as this says
abbrev pub line_text : (ℕ → ℕ) → Line → List ℕ
line_text width line =
    flat_map (λ e. cell_text (width e.0) e.0 e.1) (enumerate_from 0 line) ++ codes "\n"

-- lines, each with the cells of its columns below those of the others
abbrev pub laid_out : List Line → List ℕ
laid_out lines = flat_map (line_text (column_width lines)) lines
