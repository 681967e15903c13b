-- The text of fields, and of what an event says.
use Rattle.std.specs.Prelude.{◌==◌, if◌then◌else◌, ℕ, Bool, List, [], ◌∷◌, ◌++◌, bytes_eq, codes, flat_map}
use Rattle.std.specs.Borrow.{Bor}
use Rattle.std.specs.List.{list_any}
use Rattle.span_core.specs.Field.{present}
use Rattle.span_core.specs.Metadata.{name_of}
use Rattle.span_core.specs.declared.field.FieldValue.{FieldValue}
use Rattle.span_core.specs.declared.metadata.Metadata.{Metadata}
use Rattle.span_fmt.specs.Escape.{escaped}
use Rattle.span_fmt.specs.Text.{shown_text}
use Rattle.span_format.specs.declared.layout.Layout.{Layout}
use Rattle.span_format.specs.declared.layout.Layout.TheVariants as layout

-- what stands in front of each field
abbrev pub separator : Layout → List ℕ
separator layout.Pretty = codes ", "
separator other = codes " "

-- what stands between a field's name and its value
abbrev pub mark : Layout → List ℕ
mark layout.Pretty = codes ": "
mark other = codes "="

-- a field with this name is a message
abbrev pub is_message : List ℕ → Bool
is_message name = bytes_eq name (codes "message")

-- a field's name and what stands behind it; a message has none
abbrev pub name_text : Layout → List ℕ → List ℕ
name_text how name = if is_message name then [] else escaped name ++ mark how

-- the text of a field
abbrev pub field_text : Layout → List ℕ → FieldValue → List ℕ
field_text how name value = separator how ++ name_text how name ++ shown_text value

-- the text of the fields that have a value, one after the other
abbrev pub fields_text : Layout → List (Bor (List ℕ) × FieldValue) → List ℕ
fields_text how values = flat_map (λ f. field_text how f.0.now f.1) (present values)

-- a text without this character in front of it, if it stands there
abbrev pub bare : ℕ → List ℕ → List ℕ
bare lead [] = []
bare lead (b ∷ bytes) = if b == lead then bytes else b ∷ bytes

-- fields without what stands in front of the first: a comma, and a space
abbrev pub unled : List ℕ → List ℕ
unled fields = bare 32 (bare 44 fields)

-- one of these fields that has a value is a message
abbrev pub has_message : List (Bor (List ℕ) × FieldValue) → Bool
has_message values = list_any (λ f. is_message f.0.now) (present values)

-- what an event says: its name and its fields; the fields alone where one is its message
abbrev pub words_text : Layout → Metadata → List (Bor (List ℕ) × FieldValue) → List ℕ
words_text how m values =
    if has_message values then unled (fields_text how values)
    else escaped (name_of m) ++ fields_text how values
