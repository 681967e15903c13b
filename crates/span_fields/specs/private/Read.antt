-- How the parts of a directive's text are read.
use Rattle.std.specs.Prelude.{◌≡◌, ℕ, List, Option, Result, Ok, Err}
use Rattle.std.specs.Borrow.{Bor}
use Rattle.std.specs.Option.{option_map}
use Rattle.span_core.specs.declared.level.LevelFilter.{LevelFilter}
use Rattle.span_fields.specs.Text.{FieldMeaning}
use Rattle.span_fields.specs.declared.error.FieldError.{FieldError}
use Rattle.span_fields.specs.declared.parse.Parts.{Parts}

-- a text was cut as it is said
abbrev pub ReadsCut : Option (List ℕ × List ℕ) → Option (Bor (List ℕ) × Bor (List ℕ)) → Type 0
ReadsCut sides found = option_map (λ x. (x.0.now, x.1.now)) found ≡ sides

-- levels were read as they are said
abbrev pub ReadsLevel : Result LevelFilter FieldError → Result LevelFilter FieldError → Type 0
ReadsLevel said found = said ≡ found

-- what the parts say
abbrev pub meaning_of : Parts → FieldMeaning
meaning_of p = record {
  target = p.target.now;
  name = p.name.now;
  field = p.field.now;
  value = p.value.now;
  level = p.level;
}

-- the parts were read as they are said
abbrev pub ReadsParts : Result FieldMeaning FieldError → Result Parts FieldError → Type 0
ReadsParts said (Ok parts) = said ≡ Ok (meaning_of parts)
ReadsParts said (Err error) = said ≡ Err error
