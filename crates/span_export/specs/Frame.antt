-- What stands round the boxes of a picture: the axis of time, the names of lanes, what the colours
-- mean.
use Rattle.std.specs.Prelude.{◌+◌, ◌-◌, ◌*◌, ◌/◌, ◌%◌, ◌==◌, ℕ, zero, suc, if◌then◌else◌, nat_le, List, [], ◌∷◌, ◌++◌, codes, decimal, flat_map}
use Rattle.std.specs.BTreeMap.{BTreeMap}
use Rattle.span_times.specs.Measure.{capped}
use Rattle.span_export.specs.Scale.{x_at}
use Rattle.span_export.specs.declared.frame.Plan.{Plan}
use Rattle.span_export.specs.declared.picture.Scale.{Scale}

-- a square of a level's colour, so far from the left, and behind it the level's name
abbrev pub swatch : List ℕ → List ℕ → List ℕ → List ℕ
swatch level x behind =
    codes "<rect class=\"" ++ level ++ codes "\" x=\"" ++ x
    ++ codes "\" y=\"8\" width=\"12\" height=\"12\"/><text x=\"" ++ behind
    ++ codes "\" y=\"18\">" ++ level ++ codes "</text>\n"

-- what the colours mean, and a circle
abbrev pub legend : List ℕ
legend =
    swatch (codes "ERROR") (codes "72") (codes "88")
    ++ swatch (codes "WARN") (codes "148") (codes "164")
    ++ swatch (codes "INFO") (codes "224") (codes "240")
    ++ swatch (codes "DEBUG") (codes "300") (codes "316")
    ++ swatch (codes "TRACE") (codes "376") (codes "392")
    ++ codes "<circle cx=\"452\" cy=\"14\" r=\"4\"/><text x=\"462\" y=\"18\">event</text>\n"

-- the boxes of a level, filled so and edged so
abbrev pub boxes_in : List ℕ → List ℕ → List ℕ → List ℕ
boxes_in level fill edge =
    codes "rect." ++ level ++ codes "{fill:#" ++ fill ++ codes ";stroke:#" ++ edge ++ codes "}\n"

-- the marks of a level, filled so
abbrev pub marks_in : List ℕ → List ℕ → List ℕ
marks_in level fill = codes "circle." ++ level ++ codes "{fill:#" ++ fill ++ codes "}\n"

-- letters and lines; then errors in red, warnings in yellow, infos in green, debugs in blue, traces
-- in grey
unfoldable pub style : List ℕ
style =
    codes "<style>\ntext{font:12px sans-serif;fill:#222}\n.lane{font-weight:bold}\n"
    ++ codes ".time{font-size:10px;fill:#777;text-anchor:middle}\n.line{stroke:#ddd}\n"
    ++ codes "rect{fill:#eee;stroke:#999}\n.paper{fill:#fff;stroke:none}\n"
    ++ boxes_in (codes "ERROR") (codes "ffb8b8") (codes "c33")
    ++ boxes_in (codes "WARN") (codes "ffdf9e") (codes "c80")
    ++ boxes_in (codes "INFO") (codes "bfe6c5") (codes "3a5")
    ++ boxes_in (codes "DEBUG") (codes "bcdcf8") (codes "37b")
    ++ boxes_in (codes "TRACE") (codes "dedee6") (codes "889")
    ++ codes "circle{fill:#999;stroke:#fff}\n"
    ++ marks_in (codes "ERROR") (codes "c33") ++ marks_in (codes "WARN") (codes "c80")
    ++ marks_in (codes "INFO") (codes "3a5") ++ marks_in (codes "DEBUG") (codes "37b")
    ++ marks_in (codes "TRACE") (codes "889") ++ codes "</style>\n"

-- the bytes of a space and the unit of microseconds
abbrev pub micro : List ℕ
micro = 32 ∷ 194 ∷ 181 ∷ 115 ∷ []

-- a time in the largest unit of which the steps are multiples
abbrev pub tick_time : ℕ → ℕ → List ℕ
tick_time time step =
    if step % 1000000000 == 0 then decimal (time / 1000000000) ++ codes " s"
    else if step % 1000000 == 0 then decimal (time / 1000000) ++ codes " ms"
    else if step % 1000 == 0 then decimal (time / 1000) ++ micro
    else decimal time ++ codes " ns"

-- a line down to this height, with this time above it
abbrev pub time_line : List ℕ → ℕ → ℕ → List ℕ
time_line time x height =
    codes "<text class=\"time\" x=\"" ++ decimal x ++ codes "\" y=\"42\">" ++ time
    ++ codes "</text><path class=\"line\" d=\"M" ++ decimal x ++ codes ".5 48V"
    ++ decimal height ++ codes "\"/>\n"

-- the line that is so many steps after the first point, unless that is after the last
abbrev pub tick_text : Scale → Plan → ℕ → List ℕ
tick_text scale plan count =
    let after = capped (plan.step * count) in
    if nat_le after (scale.finish - scale.begin)
    then time_line (tick_time after plan.step) (x_at scale (capped (scale.begin + after)))
    plan.height
    else []

-- the first n lines
abbrev pub axis_text : Scale → Plan → ℕ → List ℕ
axis_text scale plan zero = []
axis_text scale plan (suc n) = axis_text scale plan n ++ tick_text scale plan n

-- the name of a lane with this top, and a line above it
abbrev pub lane_text : ℕ → ℕ → ℕ → List ℕ
lane_text width lane top =
    codes "<path class=\"line\" d=\"M0 " ++ decimal (top - 4) ++ codes ".5H" ++ decimal width
    ++ codes "\"/><text class=\"lane\" x=\"10\" y=\"" ++ decimal (capped (top + 30))
    ++ codes "\">lane " ++ decimal lane ++ codes "</text>\n"

-- the names of lanes, and lines between them
abbrev pub lanes_text : ℕ → BTreeMap ℕ ℕ → List ℕ
lanes_text width tops = flat_map (λ e. lane_text width e.0 e.1) tops.entries

-- the tag that begins a picture of this size, which can be scaled
abbrev pub tag_text : ℕ → ℕ → List ℕ
tag_text width height =
    codes "<svg xmlns=\"http://www.w3.org/2000/svg\" viewBox=\"0 0 " ++ decimal width
    ++ codes " " ++ decimal height ++ codes "\" width=\"" ++ decimal width
    ++ codes "\" height=\"" ++ decimal height ++ codes "\">\n"

-- how a picture begins: with this tag, this style and its paper
abbrev pub head_in : List ℕ → List ℕ → ℕ → ℕ → List ℕ
head_in tag look width height =
    tag ++ look ++ codes "<rect class=\"paper\" width=\"" ++ decimal width
    ++ codes "\" height=\"" ++ decimal height ++ codes "\"/>\n"

-- how a picture begins, with the style of all pictures
abbrev pub head_text : ℕ → ℕ → List ℕ
head_text width height = head_in (tag_text width height) style width height

-- all that stands round boxes and marks: the size and the paper, what the colours mean, the axis
-- and the lanes
abbrev pub frame_text : Scale → Plan → List ℕ
frame_text scale plan =
    let width = scale.plot + 96 in
    head_text width plan.height ++ legend ++ axis_text scale plan 9 ++ lanes_text width plan.tops
