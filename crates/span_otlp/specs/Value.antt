-- Values of fields in OpenTelemetry's JSON.
use Rattle.std.specs.Prelude.{ℕ, ◌^◌, if◌then◌else◌, List, [], ◌∷◌, codes, decimal, nat_lt}
use Rattle.std.specs.Fmt.{signed_decimal}
use Rattle.std.specs.Str.{bytes_eq}
use Rattle.serde_json.specs.Data.{Data, boolean, string}
use Rattle.span_export.specs.Json.{object_of}
use Rattle.span_export.specs.Value.{number_or}
use Rattle.span_times.specs.Field.{Said}
use Rattle.span_times.specs.Field.Said.{Flag, Real, Signed, Whole, Wide, WideSigned, Words}

-- how JSON of protocol buffers calls a float that isn't finite
abbrev pub proto_name : List ℕ → List ℕ
proto_name text =
    if bytes_eq text (codes "inf") then codes "Infinity"
    else if bytes_eq text (codes "-inf") then codes "-Infinity" else codes "NaN"

-- a value of this type
abbrev pub typed : List ℕ → Data → Data
typed type d = object_of ((type, d) ∷ [])

-- a number without a sign as OpenTelemetry has it: an integer, if it is below 2^63, which stands as
-- a text
abbrev pub whole_data : ℕ → Data
whole_data n =
    if nat_lt n (2 ^ 63) then typed (codes "intValue") (string (decimal n))
    else typed (codes "stringValue") (string (decimal n))

-- a value as OpenTelemetry has it: of the type that fits, and as a text where none does
abbrev pub typed_data : Said → Data
typed_data (Whole n) = whole_data n
typed_data (Signed n) = typed (codes "intValue") (string (signed_decimal n))
typed_data (Wide n) = typed (codes "stringValue") (string (decimal n))
typed_data (WideSigned n) = typed (codes "stringValue") (string (signed_decimal n))
typed_data (Real x text) = typed (codes "doubleValue") (number_or (proto_name text) x)
typed_data (Flag b) = typed (codes "boolValue") (boolean b)
typed_data (Words text) = typed (codes "stringValue") (string text)
