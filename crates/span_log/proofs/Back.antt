-- The record of a record's event.
use Rattle.std.proofs.Common.{◌≡◌, ℕ, false, List, [], ◌∷◌, Option, Some, codes, refl, ap}
use Rattle.std.specs.Borrow.{Bor}
use Rattle.std.specs.Option.{option_and_then, option_map_or}
use Rattle.span_core.specs.Field.{is_absent, value_text}
use Rattle.span_core.specs.declared.field.FieldValue.{FieldValue}
use Rattle.span_core.specs.declared.field.FieldValue.TheVariants as value
use Rattle.span_log.specs.Fields.{pairs_of, text_in, texts_of}
use Rattle.span_log.specs.Record.{value_under}

-- what the fields of a record are found to be: its message, its target, and no pair
abbrev pub HasOnly : List (Bor (List ℕ) × FieldValue) → List ℕ → List ℕ → Type 0
HasOnly values message target =
    ((name : List ℕ) → option_map_or value_text (value_under values (codes "message")) name ≡ message)
    × ((own : List ℕ) → option_map_or (λ text. text) (option_and_then text_in (value_under values (codes "log.target"))) own ≡ target)
    × (pairs_of values ≡ [])

-- a field that is a text, by its name
abbrev text_at : Bor (List ℕ) × FieldValue → List ℕ × Option (List ℕ)
text_at field = (field.0.now, text_in field.1)

-- a value that is a text writes that text
text_written : (v : FieldValue) (text : List ℕ) → text_in v ≡ Some text → value_text v ≡ text
text_written (value.Text t) text is = cc
text_written (value.U64 n) text is = cc
text_written (value.I64 n) text is = cc
text_written (value.U128 n) text is = cc
text_written (value.I128 n) text is = cc
text_written (value.F64 f) text is = cc
text_written (value.Bool b) text is = cc
text_written value.Absent text is = cc

-- and is there
text_there : (v : FieldValue) (text : List ℕ) → text_in v ≡ Some text → is_absent v ≡ false
text_there (value.Text t) text is = refl
text_there (value.U64 n) text is = refl
text_there (value.I64 n) text is = refl
text_there (value.U128 n) text is = refl
text_there (value.I128 n) text is = refl
text_there (value.F64 f) text is = refl
text_there (value.Bool b) text is = refl
text_there value.Absent text is = cc

-- fields that are the message and the target as texts are found to be so
pub has_only : (values : List (Bor (List ℕ) × FieldValue)) (message target : List ℕ)
    → texts_of values ≡ (codes "message", Some message) ∷ (codes "log.target", Some target) ∷ []
    → HasOnly values message target
has_only [] message target is = cc
has_only (a ∷ []) message target is = cc
has_only (a ∷ b ∷ []) message target is =
    let one : text_at a ≡ (codes "message", Some message) = cc in
    let other : text_at b ≡ (codes "log.target", Some target) = cc in
    let first : a.0.now ≡ codes "message" = ap (λ p. p.0) one in
    let second : b.0.now ≡ codes "log.target" = ap (λ p. p.0) other in
    let said : text_in a.1 ≡ Some message = ap (λ p. p.1) one in
    let origin : text_in b.1 ≡ Some target = ap (λ p. p.1) other in
    let written : value_text a.1 ≡ message = text_written a.1 message said in
    let there : is_absent a.1 ≡ false = text_there a.1 message said in
    let other_there : is_absent b.1 ≡ false = text_there b.1 target origin in
    (λ name. simp (there, first) written, λ own. simp (there, other_there, first, second, origin), simp (there, other_there, first, second))
has_only (a ∷ b ∷ d ∷ rest) message target is = cc
