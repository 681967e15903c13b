-- How W3C's text of a span of another program is read.
use Rattle.std.specs.Prelude.{◌*◌, ◌==◌, ◌&&◌, ◌||◌, ℕ, Bool, nat_lt, not, if◌then◌else◌, List, [], ◌∷◌, Option, None, Some, drop, length, slice_index, take}
use Rattle.std.specs.Char.{is_ascii_uppercase}
use Rattle.std.specs.Int.{from_be_bytes, w128, w64}
use Rattle.std.specs.List.{list_any}
use Rattle.std.specs.Option.{option_and_then, option_map}
use Rattle.std.specs.Result.{result_ok}
use Rattle.hex.specs.Hex.{decode_sized}
use Rattle.span_otlp.specs.declared.trace_parent.TraceParent.{TraceParent}

-- some bytes that are spelled by two lower-case digits each, and what follows them
abbrev pub Found : Type 0
Found = List ℕ × List ℕ

-- the bytes that these digits spell in lower case, if they are n
abbrev pub lower_bytes : ℕ → List ℕ → Option (List ℕ)
lower_bytes n digits =
    if list_any is_ascii_uppercase digits then None else result_ok (decode_sized digits n)

-- n bytes that are spelled in front of a text, and what follows them
abbrev pub bytes_in_front : ℕ → List ℕ → Option Found
bytes_in_front n text =
    if nat_lt (length text) (2 * n) then None
    else option_map (λ bytes. (bytes, drop (2 * n) text)) (lower_bytes n (take (2 * n) text))

-- n bytes that are spelled behind a dash, and what follows them
abbrev pub bytes_behind_dash : ℕ → List ℕ → Option Found
bytes_behind_dash n [] = None
bytes_behind_dash n (c ∷ digits) = if c == 45 then bytes_in_front n digits else None

-- whether a text of this version may end so behind the flags
abbrev pub may_end : ℕ → List ℕ → Bool
may_end version [] = not (version == 255)
may_end version (c ∷ rest) = not (version == 0) && not (version == 255) && (c == 45)

-- the parent with these numbers and flags, if neither is 0 and a text of this version may end so
abbrev pub whole_parent : ℕ → TraceParent → List ℕ → Option TraceParent
whole_parent version p rest =
    if (p.trace == 0) || (p.span == 0) || not (may_end version rest) then None else Some p

-- the parent of which these are the bytes of the version, the trace, the span and the flags
abbrev pub parent_of_bytes : List ℕ → List ℕ → List ℕ → Found → Option TraceParent
parent_of_bytes version trace span flags =
    whole_parent (slice_index version 0)
    (record {
      trace = from_be_bytes w128 trace;
      span = from_be_bytes w64 span;
      flags = slice_index flags.0 0;
    })
    flags.1

-- the parent that a text is read as
abbrev pub parent_in : List ℕ → Option TraceParent
parent_in text =
    option_and_then (λ version. option_and_then (λ trace. option_and_then (λ span.
    option_and_then (parent_of_bytes version.0 trace.0 span.0)
    (bytes_behind_dash 1 span.1)) (bytes_behind_dash 8 trace.1))
    (bytes_behind_dash 16 version.1)) (bytes_in_front 1 text)
