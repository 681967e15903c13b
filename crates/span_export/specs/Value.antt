-- Values of fields in JSON.
use Rattle.std.specs.Prelude.{ℕ, Float, List, decimal}
use Rattle.std.specs.Fmt.{signed_decimal}
use Rattle.std.specs.Option.{option_map_or}
use Rattle.serde_json.specs.Data.{Data, boolean, number, string, unsigned}
use Rattle.serde_json.specs.Find.{of_float, of_integer}
use Rattle.span_times.specs.Field.{Said}
use Rattle.span_times.specs.Field.Said.{Flag, Real, Signed, Whole, Wide, WideSigned, Words}

-- a float as a number, or these words where it isn't finite
abbrev pub number_or : List ℕ → Float → Data
number_or words x = option_map_or number (of_float x) (string words)

-- a value in JSON: a number of more than 64 bits as a text, and a float that isn't finite as its
-- text
abbrev pub value_data : Said → Data
value_data (Whole n) = number (unsigned n)
value_data (Signed n) = number (of_integer n)
value_data (Wide n) = string (decimal n)
value_data (WideSigned n) = string (signed_decimal n)
value_data (Real x text) = number_or text x
value_data (Flag b) = boolean b
value_data (Words text) = string text
