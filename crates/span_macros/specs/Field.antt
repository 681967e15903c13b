-- What macros make of values and parents.
use Rattle.std.specs.Prelude.{◌≡◌, ◌⊎◌, ℕ, IfSome, List, Option, None, Some}
use Rattle.std.specs.Borrow.{Bor}
use Rattle.std.specs.Float.{Float as Number}
use Rattle.span_core.specs.Field.{ReadsBack, float_text, float_value}
use Rattle.span_core.specs.declared.field.FieldValue.{FieldValue}
use Rattle.span_core.specs.declared.field.FieldValue.TheVariants as value
use Rattle.span_core.specs.declared.field.Float.{Float}
use Rattle.span_core.specs.declared.span.Id.{Id}
use Rattle.span_core.specs.declared.span.Parent.TheVariants.{Explicit, Root}
use Rattle.span_core.specs.declared.span.Parent.{Parent}

-- the span of this id, or no parent where there is none
abbrev pub parent_by : Option Id → Parent
parent_by (Some id) = Explicit id
parent_by None = Root

-- the value is this text
abbrev pub IsText : List ℕ → FieldValue → Type 0
IsText text v = (t : Bor (List ℕ)) × (v ≡ value.Text t) × (t.now ≡ text)

-- the value is absent, or else a text, which is this one where it is known
abbrev pub ShowsText : Option (List ℕ) → FieldValue → Type 0
ShowsText known v =
    (v ≡ value.Absent)
    ⊎ ((t : Bor (List ℕ)) × (v ≡ value.Text t) × IfSome known (λ text. t.now ≡ text))

-- the value is this float, with a text that reads back as it
abbrev pub IsFloat : Number → FieldValue → Type 0
IsFloat x v = (f : Float) × (v ≡ value.F64 f) × (float_value f ≡ x) × ReadsBack x (float_text f)

-- the value is absent where there is none, else what the given one becomes
abbrev pub IsOptional : {A : Type 0} → (A → FieldValue → Type 0) → Option A → FieldValue → Type 0
IsOptional becomes None v = v ≡ value.Absent
IsOptional becomes (Some x) v = becomes x v

-- something was done with one such value, and gave this
abbrev pub GivesOne : {A : Type 0} → (FieldValue → Type 0) → (FieldValue → A → Type 0) → A → Type 0
GivesOne Is gives result = (v : FieldValue) × Is v × gives v result
