-- Fields as the pairs of a record of `log`.
use Rattle.std.specs.Prelude.{◌≡◌, ℕ, ◌||◌, Bool, List, [], bytes_eq, Option, None, Some, codes, filter, map, not}
use Rattle.std.specs.Borrow.{Bor}
use Rattle.log.specs.Kv.{Pair, value_str}
use Rattle.log.specs.declared.kv.to_value.Primitive.{Primitive}
use Rattle.log.specs.declared.kv.value.Value.TheVariants as log
use Rattle.log.specs.declared.kv.value.Value.{Value}
use Rattle.span_core.specs.Field.{float_text, present, value_text}
use Rattle.span_core.specs.declared.field.FieldValue.{FieldValue}
use Rattle.span_core.specs.declared.field.FieldValue.TheVariants as value
use Rattle.span_log.specs.declared.fields.Fields.{Fields}

-- the fields that are handed on as pairs
abbrev pub fields_in : Fields → List (Bor (List ℕ) × FieldValue)
fields_in fields = fields.0.now

-- a value as one of `log`: of the same kind, but for a float, which becomes its text, and for no
-- value, which becomes an empty text
abbrev pub IsLogValueOf : FieldValue → Value Primitive → Type 0
IsLogValueOf (value.U64 number) given = given ≡ log.U64 number
IsLogValueOf (value.I64 number) given = given ≡ log.I64 number
IsLogValueOf (value.U128 number) given = given ≡ log.U128 number
IsLogValueOf (value.I128 number) given = given ≡ log.I128 number
IsLogValueOf (value.F64 float) given = value_str given ≡ Some (float_text float)
IsLogValueOf (value.Bool flag) given = given ≡ log.Bool flag
IsLogValueOf (value.Text text) given = given ≡ log.Str text
IsLogValueOf value.Absent given = value_str given ≡ Some []

-- the text that a value is, if it is one
abbrev pub text_in : FieldValue → Option (List ℕ)
text_in (value.Text text) = Some text.now
text_in other = None

-- fields that are texts, by their names
abbrev pub texts_of : List (Bor (List ℕ) × FieldValue) → List (List ℕ × Option (List ℕ))
texts_of fields = map (λ field. (field.0.now, text_in field.1)) fields

-- a field with this name is a pair: `message` and `log.target` have places of their own in a record
abbrev pub is_pair : List ℕ → Bool
is_pair name = not (bytes_eq name (codes "message") || bytes_eq name (codes "log.target"))

-- the pairs of the fields that have a value, in their order: the name, and the text of the value
abbrev pub pairs_of : List (Bor (List ℕ) × FieldValue) → List Pair
pairs_of fields =
    map (λ field. (field.0.now, value_text field.1))
    (filter (λ field. is_pair field.0.now) (present fields))
