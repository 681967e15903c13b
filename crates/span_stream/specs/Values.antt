-- Values of fields as members of objects in JSON.
use Rattle.std.specs.Prelude.{ℕ, if◌then◌else◌, List, [], ◌∷◌, decimal, unwrap_or}
use Rattle.std.specs.Borrow.{Bor}
use Rattle.std.specs.Fmt.{signed_decimal}
use Rattle.std.specs.Option.{option_map}
use Rattle.serde_json.specs.Data.{Data, Members, boolean, null, number, put, string, unsigned}
use Rattle.serde_json.specs.Find.{of_float, of_integer}
use Rattle.span_core.specs.Field.{float_value, is_absent}
use Rattle.span_core.specs.declared.field.FieldValue.{FieldValue}
use Rattle.span_core.specs.declared.field.FieldValue.TheVariants as value

-- a value in JSON: a number of more than 64 bits as a text, a float that isn't finite as null
abbrev pub value_data : FieldValue → Data
value_data (value.U64 n) = number (unsigned n)
value_data (value.I64 n) = number (of_integer n)
value_data (value.U128 n) = string (decimal n)
value_data (value.I128 n) = string (signed_decimal n)
value_data (value.F64 f) = unwrap_or (option_map number (of_float (float_value f))) null
value_data (value.Bool b) = boolean b
value_data (value.Text t) = string t.now
value_data value.Absent = null

-- these members, and a value by its name, if there is one
abbrev pub with_value : List ℕ → FieldValue → Members → Members
with_value name value ms = if is_absent value then ms else put name (value_data value) ms

-- these members, and the values of fields by their names: of two of one name the later one
abbrev pub with_values : List (Bor (List ℕ) × FieldValue) → Members → Members
with_values [] ms = ms
with_values (f ∷ fs) ms = with_values fs (with_value f.0.now f.1 ms)
