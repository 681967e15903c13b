-- Parts of lines in styles, as terminals show them: a level, a span's name, a target. What a value
-- says stands in none, and is escaped as ever.
use Rattle.std.specs.Prelude.{◌==◌, if◌then◌else◌, ℕ, Bool, List, [], ◌∷◌, ◌++◌, codes}
use Rattle.span_core.specs.Level.{level_number}
use Rattle.span_core.specs.Metadata.{name_of, target_of}
use Rattle.span_core.specs.declared.level.Level.{Level}
use Rattle.span_core.specs.declared.metadata.Metadata.{Metadata}
use Rattle.span_fmt.specs.Escape.{escaped}
use Rattle.span_format.specs.declared.style.Style.{Style}
use Rattle.span_format.specs.declared.style.Style.TheVariants as style

-- the colour of a level's number: red, yellow, green, blue, magenta
abbrev pub colour_code : ℕ → List ℕ
colour_code n =
    if n == 1 then codes "[31m"
    else (if n == 2 then codes "[33m"
    else (if n == 3 then codes "[32m" else (if n == 4 then codes "[34m" else codes "[35m")))

-- what begins the colour of a level: an escape, and its code
abbrev pub colour_of : Level → List ℕ
colour_of l = 27 ∷ colour_code (level_number l)

-- what begins a style
abbrev pub start_of : Style → List ℕ
start_of (style.Level l) = colour_of l
start_of style.Bold = 27 ∷ codes "[1m"
start_of style.Dim = 27 ∷ codes "[2m"

-- what ends any style
abbrev pub reset : List ℕ
reset = 27 ∷ codes "[0m"

-- a text in a style, where styles are asked for, and else the text alone
abbrev pub styled : Bool → Style → List ℕ → List ℕ
styled ansi style text = if ansi then start_of style ++ text ++ reset else text

-- a span's name, bold where styles are asked for
abbrev pub bold_name : Bool → Metadata → List ℕ
bold_name ansi m = styled ansi style.Bold (escaped (name_of m))

-- a target, dimmed where styles are asked for
abbrev pub dim_target : Bool → Metadata → List ℕ
dim_target ansi m = styled ansi style.Dim (escaped (target_of m))

-- what stands in front of a text in a style, where styles are asked for
abbrev pub begun : Bool → Style → List ℕ
begun ansi style = if ansi then start_of style else []

-- what stands behind it
abbrev pub ended : Bool → List ℕ
ended ansi = if ansi then reset else []
