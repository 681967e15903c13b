-- The body of a request.
use Rattle.std.specs.Prelude.{ℕ, ◌-◌, ◌&&◌, nat_eq, nat_le, if◌then◌else◌, List, ◌++◌, String, codes, length, map, slice_range, string_bytes}
use Rattle.std.specs.List.{ends_with, join_with_byte, starts_with}
use Rattle.std.specs.declared.alloc.Global.{Global}

-- what an export request has in its list; any other text stands for itself
abbrev pub resource_spans : List ℕ → List ℕ
resource_spans text =
    if nat_le 20 (length text)
    && (starts_with nat_eq text (codes "{\"resourceSpans\":[")
    && ends_with nat_eq text (codes "]}"))
    then slice_range text 18 (length text - 2)
    else text

-- what the requests of spans have in their lists, with commas between
abbrev pub listed : List (String Global) → List ℕ
listed spans = join_with_byte 44 (map (λ span. resource_spans (string_bytes span)) spans)

-- one export request that has what those of the spans have: the body to be posted
abbrev pub body_of : List (String Global) → List ℕ
body_of spans = codes "{\"resourceSpans\":[" ++ listed spans ++ codes "]}"
