-- Fields as text: `{id=7 kind="a b"}`.
use Rattle.std.specs.Prelude.{ℕ, List, [], ◌∷◌, ◌++◌, codes, decimal, flat_map}
use Rattle.std.specs.Fmt.{signed_decimal}
use Rattle.span_core.specs.Field.{flag_text}
use Rattle.span_fmt.specs.Escape.{escaped}
use Rattle.span_fmt.specs.Quote.{quoted}
use Rattle.span_times.specs.Field.{FieldSaid, Said}
use Rattle.span_times.specs.Field.Said.{Flag, Real, Signed, Whole, Wide, WideSigned, Words}

-- the text of a value, a text in quotes
abbrev pub value_shown : Said → List ℕ
value_shown (Whole n) = decimal n
value_shown (Signed n) = signed_decimal n
value_shown (Wide n) = decimal n
value_shown (WideSigned n) = signed_decimal n
value_shown (Real x text) = text
value_shown (Flag b) = flag_text b
value_shown (Words text) = quoted text

-- the text of a field: its name, escaped, and its value
abbrev pub field_shown : FieldSaid → List ℕ
field_shown f = escaped f.0 ++ codes "=" ++ value_shown f.1

-- fields, each behind a space
abbrev pub rest_shown : List FieldSaid → List ℕ
rest_shown fs = flat_map (λ f. codes " " ++ field_shown f) fs

-- fields in braces, with spaces between; nothing where there are none
abbrev pub given_shown : List FieldSaid → List ℕ
given_shown [] = []
given_shown (f ∷ fs) = codes "{" ++ field_shown f ++ rest_shown fs ++ codes "}"
