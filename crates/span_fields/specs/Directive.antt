-- What passes within spans that were given a value.
use Rattle.std.specs.Prelude.{◌≡◌, ◌&&◌, ℕ, List, [], ◌∷◌, length, take, bytes_eq, string_bytes, Bool, false, if◌then◌else◌, not, pos}
use Rattle.std.specs.Borrow.{Bor}
use Rattle.std.specs.List.{list_any}
use Rattle.std.specs.Ordering.{int_eq}
use Rattle.span_core.specs.Level.{greater, passes_level}
use Rattle.span_core.specs.Metadata.{level_of}
use Rattle.span_core.specs.Metadata as metadata
use Rattle.span_core.specs.declared.field.FieldValue.TheVariants as value
use Rattle.span_core.specs.declared.field.FieldValue.{FieldValue}
use Rattle.span_core.specs.declared.level.Level.{Level}
use Rattle.span_core.specs.declared.level.LevelFilter.{LevelFilter}
use Rattle.span_core.specs.declared.metadata.Metadata.{Metadata}
use Rattle.span_fields.specs.declared.directive.FieldDirective.{FieldDirective}
use Rattle.span_fields.specs.declared.value.ValueMatch.TheVariants as asked
use Rattle.span_fields.specs.declared.value.ValueMatch.{ValueMatch}

-- what the target of the spans that a directive names begins with
abbrev pub target_of : FieldDirective → List ℕ
target_of d = string_bytes d.target

-- the name of the spans that a directive names
abbrev pub name_of : FieldDirective → List ℕ
name_of d = string_bytes d.name

-- the field that a directive asks for
abbrev pub field_of : FieldDirective → List ℕ
field_of d = string_bytes d.field

-- the value that a directive asks for
abbrev pub value_of : FieldDirective → ValueMatch
value_of d = d.value

-- the levels that pass within the spans that meet a directive
abbrev pub level_by : FieldDirective → LevelFilter
level_by d = d.level

-- the directive has these parts
pub record IsDirective (target name field : List ℕ) (value : ValueMatch) (level : LevelFilter)
    (d : FieldDirective) : Type 0 where
  pub front : target_of d ≡ target
  pub called : name_of d ≡ name
  pub given : field_of d ≡ field
  pub asked : value_of d ≡ value
  pub most : level_by d ≡ level

-- whether a value is the one that is asked for: this number, given in 64 bits; this truth value; or
-- this text
abbrev pub is_value : ValueMatch → FieldValue → Bool
is_value (asked.Number n) (value.U64 m) = int_eq n (pos m)
is_value (asked.Number n) (value.I64 m) = int_eq n m
is_value (asked.Bool b) (value.Bool c) = if b then c else not c
is_value (asked.Text t) (value.Text u) = bytes_eq (string_bytes t) u.now
is_value other v = false

-- values as they are given: each with the name of a field
abbrev pub Values : Type 0
Values = List (Bor (List ℕ) × FieldValue)

-- whether a field was given the value that is asked for
abbrev pub is_given : List ℕ → ValueMatch → Values → Bool
is_given field asked values =
    list_any (λ v. bytes_eq v.0.now field && is_value asked v.1) values

-- whether a span with these metadata is one that a directive names: by its name, and by what its
-- target begins with
abbrev pub names_span : Metadata → FieldDirective → Bool
names_span m d =
    bytes_eq (name_of d) (metadata.name_of m)
    && bytes_eq (target_of d) (take (length (target_of d)) (metadata.target_of m))

-- whether a span with these metadata meets a directive by these values
abbrev pub is_met : Metadata → Values → FieldDirective → Bool
is_met m values d = names_span m d && is_given (field_of d) (value_of d) values

-- whether metadata pass by a directive that names spans with them
abbrev pub passes_within : List FieldDirective → Metadata → Bool
passes_within ds m = list_any (λ d. names_span m d && passes_level (level_by d) (level_of m)) ds

-- whether a level passes by one of the directives
abbrev pub passes_somewhere : List FieldDirective → Level → Bool
passes_somewhere ds l = list_any (λ d. passes_level (level_by d) l) ds

-- the most that passes by one of these directives, or these levels, whichever lets more by
abbrev pub most_of : LevelFilter → List FieldDirective → LevelFilter
most_of most [] = most
most_of most (d ∷ ds) = most_of (greater most (level_by d)) ds
