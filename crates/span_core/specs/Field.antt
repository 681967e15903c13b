-- What values of fields show.
use Rattle.std.specs.Prelude.{◌≡◌, ℕ, ℤ, List, [], Bool, true, false, IsTrue, Some, codes, decimal, filter, not}
use Rattle.std.specs.Borrow.{Bor}
use Rattle.std.specs.Float.{Float as Number, binary64, float_is_finite}
use Rattle.std.specs.Fmt.{signed_decimal}
use Rattle.ryu.specs.Parse.{parse_float}
use Rattle.ryu.specs.Plain.{IsPlainNumber}
use Rattle.span_core.specs.declared.field.FieldValue.{FieldValue}
use Rattle.span_core.specs.declared.field.FieldValue.TheVariants as value
use Rattle.span_core.specs.declared.field.Float.{Float}

-- a float with its text: the float
abbrev pub float_value : Float → Number
float_value f = f.value

-- a float with its text: the text
abbrev pub float_text : Float → List ℕ
float_text f = f.text.now

-- a text reads back as this float, and is a number in digits if the float is finite
pub record ReadsBack (x : Number) (text : List ℕ) : Type 0 where
  pub reads : parse_float binary64 text ≡ Some x
  pub plain : IsTrue (float_is_finite x) → IsPlainNumber text

-- the names of truth values
abbrev pub flag_text : Bool → List ℕ
flag_text true = codes "true"
flag_text false = codes "false"

-- the text of a value: a number in decimal digits, a float's own text, a truth value by its name, a
-- text as it is, and none where there is no value
abbrev pub value_text : FieldValue → List ℕ
value_text (value.U64 n) = decimal n
value_text (value.I64 n) = signed_decimal n
value_text (value.U128 n) = decimal n
value_text (value.I128 n) = signed_decimal n
value_text (value.F64 f) = float_text f
value_text (value.Bool b) = flag_text b
value_text (value.Text t) = t.now
value_text value.Absent = []

-- whether a field has no value
abbrev pub is_absent : FieldValue → Bool
is_absent value.Absent = true
is_absent _ = false

-- the fields that have a value
abbrev pub present : List (Bor (List ℕ) × FieldValue) → List (Bor (List ℕ) × FieldValue)
present values = filter (λ field. not (is_absent field.1)) values
