-- The text of fields, and of a line.
use Rattle.std.specs.Prelude.{◌≡◌, ℕ, List, ◌++◌, String, codes, flat_map, string_bytes}
use Rattle.std.specs.Borrow.{Bor}
use Rattle.span_core.specs.Field.{present, value_text}
use Rattle.span_core.specs.Level.{level_text}
use Rattle.span_core.specs.Metadata.{level_of, name_of, target_of}
use Rattle.span_core.specs.declared.field.FieldValue.{FieldValue}
use Rattle.span_core.specs.declared.field.FieldValue.TheVariants as value
use Rattle.span_core.specs.declared.metadata.Metadata.{Metadata}
use Rattle.span_fmt.specs.Escape.{escaped}
use Rattle.span_fmt.specs.Lane.{Naming, lane_text}
use Rattle.span_fmt.specs.Quote.{quoted}

-- a text has these bytes appended
abbrev pub IsContinued : {A : Type 0} → String A → String A → List ℕ → Type 0
IsContinued old new bytes = string_bytes new ≡ string_bytes old ++ bytes

-- what is written of a value: of a text the text in quotes
abbrev pub shown_text : FieldValue → List ℕ
shown_text (value.Text t) = quoted t.now
shown_text other = value_text other

-- the text of a field, behind a space
abbrev pub field_text : List ℕ → FieldValue → List ℕ
field_text name value = codes " " ++ escaped name ++ codes "=" ++ shown_text value

-- the text of the fields that have a value, one after the other
abbrev pub fields_text : List (Bor (List ℕ) × FieldValue) → List ℕ
fields_text values = flat_map (λ f. field_text f.0.now f.1) (present values)

-- two spaces for each member of a list
abbrev pub indent : {A : Type 0} → List A → List ℕ
indent xs = flat_map (λ x. codes "  ") xs

-- how a line begins: with its lane, by its name if it has one, and two spaces for each of these
-- spans
abbrev pub head_text : {A : Type 0} → Naming → ℕ → List A → List ℕ
head_text names lane spans = lane_text names lane ++ codes " " ++ indent spans

-- how a line ends: with the target, the name, and these values
abbrev pub rest_text : Metadata → List (Bor (List ℕ) × FieldValue) → List ℕ
rest_text m values =
    escaped (target_of m) ++ codes ": " ++ escaped (name_of m) ++ fields_text values ++ codes "\n"

-- how a line goes on: with a mark, the level, and its end
abbrev pub tail_text : List ℕ → Metadata → List (Bor (List ℕ) × FieldValue) → List ℕ
tail_text mark m values =
    mark ++ codes " " ++ level_text (level_of m) ++ codes " " ++ rest_text m values
