-- Fields with their values, kept.
use Rattle.std.specs.Prelude.{◌-◌, ◌+◌, ℕ, ℤ, Bool, List, [], Option, None, Some, drop, filter_map, if◌then◌else◌, map, string_bytes, take}
use Rattle.std.specs.Borrow.{Bor}
use Rattle.std.specs.Float.{Float as Number}
use Rattle.std.specs.Option.{option_map}
use Rattle.span_core.specs.Field.{float_text, float_value}
use Rattle.span_core.specs.declared.field.FieldValue.{FieldValue}
use Rattle.span_core.specs.declared.field.FieldValue.TheVariants as value
use Rattle.span_times.specs.declared.field.FieldRange.{FieldRange}
use Rattle.span_times.specs.declared.field.OwnedField.{OwnedField}
use Rattle.span_times.specs.declared.field.OwnedValue.{OwnedValue}
use Rattle.span_times.specs.declared.field.OwnedValue.TheVariants as owned

-- what a value says: a number of a type, a float with its text, a truth value, or a text
pub data Said : Type 0 where
  Whole : ℕ → Said
  Signed : ℤ → Said
  Wide : ℕ → Said
  WideSigned : ℤ → Said
  Real : Number → List ℕ → Said
  Flag : Bool → Said
  Words : List ℕ → Said

-- what a field says: its name, and what its value says
abbrev pub FieldSaid : Type 0
FieldSaid = List ℕ × Said

-- what an owned value says
abbrev pub said : OwnedValue → Said
said (owned.U64 n) = Whole n
said (owned.I64 n) = Signed n
said (owned.U128 n) = Wide n
said (owned.I128 n) = WideSigned n
said (owned.F64 x text) = Real x (string_bytes text)
said (owned.Bool b) = Flag b
said (owned.Text text) = Words (string_bytes text)

-- what a value of a field says, if there is one
abbrev pub said_of : FieldValue → Option Said
said_of (value.U64 n) = Some (Whole n)
said_of (value.I64 n) = Some (Signed n)
said_of (value.U128 n) = Some (Wide n)
said_of (value.I128 n) = Some (WideSigned n)
said_of (value.F64 f) = Some (Real (float_value f) (float_text f))
said_of (value.Bool b) = Some (Flag b)
said_of (value.Text t) = Some (Words t.now)
said_of value.Absent = None

-- what an owned field says
abbrev pub field_said : OwnedField → FieldSaid
field_said f = (string_bytes f.name, said f.value)

-- what owned fields say, in their order
abbrev pub kept_in : List OwnedField → List FieldSaid
kept_in fields = map field_said fields

-- what a field says, if it has a value
abbrev pub one_said : Bor (List ℕ) × FieldValue → Option FieldSaid
one_said f = option_map (λ s. (f.0.now, s)) (said_of f.1)

-- what the fields that have a value say, in their order
abbrev pub fields_said : List (Bor (List ℕ) × FieldValue) → List FieldSaid
fields_said values = filter_map one_said values

-- what the fields that have a value say, where values are kept, and nothing where they aren't
abbrev pub given_by : Bool → List (Bor (List ℕ) × FieldValue) → List FieldSaid
given_by keeps values = if keeps then fields_said values else []

-- the range of so many fields, behind this many others
abbrev pub range_of : ℕ → ℕ → FieldRange
range_of from count = record { from = from; to = from + count }

-- what lies in a range; where some of it is missing, what is there
abbrev pub within : {A : Type 0} → FieldRange → List A → List A
within r xs = take (r.to - r.from) (drop r.from xs)
