-- What the text of a directive says.
use Rattle.std.specs.Prelude.{◌≡◌, ◌||◌, ◌&&◌, ℕ, List, length, ◌==◌, Bool, not, if◌then◌else◌, string_bytes, FitsSigned}
use Rattle.std.specs.Prelude.{Option, None, Some, Result, Ok, Err}
use Rattle.std.specs.Int.{w64}
use Rattle.std.specs.List.{after_first, before_first, list_any}
use Rattle.std.specs.Str.Parse.{IsNumeral, signed_digits_value, without_leading_sign}
use Rattle.span_core.specs.Field.{flag_text}
use Rattle.span_core.specs.declared.level.LevelFilter.{LevelFilter}
use Rattle.span_core.specs.declared.level.TheConstants.LevelFilter.{TRACE}
use Rattle.span_fields.specs.Directive.{field_of, level_by, name_of, target_of, value_of}
use Rattle.span_fields.specs.declared.directive.FieldDirective.{FieldDirective}
use Rattle.span_fields.specs.declared.error.FieldError.TheVariants.{Misshapen, OutOfMemory, UnknownLevel}
use Rattle.span_fields.specs.declared.error.FieldError.{FieldError}
use Rattle.span_fields.specs.declared.value.ValueMatch.TheVariants as asked
use Rattle.span_fields.specs.declared.value.ValueMatch.{ValueMatch}
use Rattle.span_targets.specs.Text.{has, level_named}

-- what a directive says: its parts as texts, and its levels
pub record FieldMeaning : Type 0 where
  pub target : List ℕ
  pub name : List ℕ
  pub field : List ℕ
  pub value : List ℕ
  pub level : LevelFilter

-- the two sides of the first such byte, if there is one
abbrev pub cut : ℕ → List ℕ → Option (List ℕ × List ℕ)
cut b s =
    if has b s then Some (before_first (λ c. c == b) s, after_first (λ c. c == b) s) else None

-- what is made of both sides; where there are none, the text is misshapen
abbrev pub on_both : {A : Type 0} → Option (List ℕ × List ℕ)
    → (List ℕ → List ℕ → Result A FieldError) → Result A FieldError
on_both None on = Err Misshapen
on_both (Some sides) on = on sides.0 sides.1

-- whether a part has a byte that stands between parts: `[`, `{`, `=`, `}` or `]`
abbrev pub has_mark : List ℕ → Bool
has_mark s =
    list_any (λ c. (c == 91) || ((c == 123) || ((c == 61) || ((c == 125) || (c == 93))))) s

-- whether a part is a name: it isn't empty, and no byte that stands between parts is in it
abbrev pub is_word : List ℕ → Bool
is_word s = not (length s == 0) && not (has_mark s)

-- these levels, or that a word names none
abbrev pub known_level : Option LevelFilter → Result LevelFilter FieldError
known_level (Some l) = Ok l
known_level None = Err UnknownLevel

-- the levels behind a `]`: all where nothing stands there, else those that `=` stands before
abbrev pub level_behind : List ℕ → Result LevelFilter FieldError
level_behind s =
    if length s == 0 then Ok TRACE
    else on_both (cut 61 s)
    (λ before level. if length before == 0 then known_level (level_named level) else Err Misshapen)

-- the levels behind a `}`, where a `]` has to stand
abbrev pub level_after : List ℕ → Result LevelFilter FieldError
level_after s =
    on_both (cut 93 s)
    (λ before behind. if length before == 0 then level_behind behind else Err Misshapen)

-- the parts with their levels, if these are levels
abbrev pub with_level : (LevelFilter → FieldMeaning) → Result LevelFilter FieldError
    → Result FieldMeaning FieldError
with_level meaning (Ok level) = Ok (meaning level)
with_level meaning (Err error) = Err error

-- what a directive says, as `target[name{field=value}]=level`, or why it says nothing
abbrev pub field_meaning : List ℕ → Result FieldMeaning FieldError
field_meaning s =
    on_both (cut 91 s) (λ target s. on_both (cut 123 s) (λ name s.
    on_both (cut 61 s) (λ field s. on_both (cut 125 s) (λ value s.
    if has_mark target || (not (is_word name) || not (is_word field)) then Err Misshapen
    else with_level
    (λ l. record { target = target; name = name; field = field; value = value; level = l })
    (level_after s)))))

-- a text is a number from -2^63 to 2^63 - 1, with a sign or without
pub record IsNumber (s : List ℕ) : Type 0 where
  pub digits : IsNumeral 10 (without_leading_sign s)
  pub fits : FitsSigned w64 (signed_digits_value 10 s)

-- a text asks for this value: for a truth value by its name, a number by its digits, else for the
-- text itself
abbrev pub AsksFor : List ℕ → ValueMatch → Type 0
AsksFor s (asked.Bool b) = s ≡ flag_text b
AsksFor s (asked.Number n) = IsNumber s × (n ≡ signed_digits_value 10 s)
AsksFor s (asked.Text t) =
    (string_bytes t ≡ s) × ((b : Bool) → ¬ (s ≡ flag_text b)) × ¬ (IsNumber s)

-- the directive is what was said
pub record Says (m : FieldMeaning) (d : FieldDirective) : Type 0 where
  pub target : target_of d ≡ m.target
  pub name : name_of d ≡ m.name
  pub field : field_of d ≡ m.field
  pub value : AsksFor m.value (value_of d)
  pub level : level_by d ≡ m.level

-- the directive of a text was read; or it says nothing for this reason; or memory was refused, and
-- nothing else is wrong
abbrev pub Reads : List ℕ → Result FieldDirective FieldError → Type 0
Reads s (Ok d) = (m : FieldMeaning) × (field_meaning s ≡ Ok m) × Says m d
Reads s (Err OutOfMemory) = (e : FieldError) → field_meaning s ≡ Err e → e ≡ OutOfMemory
Reads s (Err error) = field_meaning s ≡ Err error
