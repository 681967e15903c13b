-- What is known of spans: the values that they were given, as text.
use Rattle.std.specs.Prelude.{◌≢◌, ⊤, ℕ, ◌==◌, if◌then◌else◌, List, [], ◌++◌, string_bytes}
use Rattle.std.specs.BTreeMap as tree
use Rattle.std.specs.Borrow.{Bor}
use Rattle.std.specs.Option.{option_map_or}
use Rattle.std.specs.Ordering.{nat_cmp}
use Rattle.span_core.specs.Span.{number_of, recorded_values, values_of}
use Rattle.span_core.specs.declared.field.FieldValue.{FieldValue}
use Rattle.span_registry.specs.Behaviour.{Notice, OnClose, OnNewSpan, OnRecord}
use Rattle.span_fmt.specs.Text.{fields_text}
use Rattle.span_fmt.specs.declared.known.Known.{Known}

-- by a span's number, the text of the values that the span was given, each behind a space
abbrev pub SpanTexts : Type 0
SpanTexts = ℕ → List ℕ

-- no span was given a value
abbrev pub nothing_known : SpanTexts
nothing_known n = []

-- what is known, with this text of one span
abbrev pub with_text : ℕ → List ℕ → SpanTexts → SpanTexts
with_text x text known n = if x == n then text else known n

-- what is known once a span is given these values too
abbrev pub with_values : ℕ → List (Bor (List ℕ) × FieldValue) → SpanTexts → SpanTexts
with_values x values known = with_text x (known x ++ fields_text values) known

-- what is known after a notice: a new span and a record add values, and a close takes the span's
-- out
abbrev pub known_after : Notice → SpanTexts → SpanTexts
known_after (OnNewSpan attrs id) known = with_values (number_of id) (values_of attrs) known
known_after (OnRecord id values) known = with_values (number_of id) (recorded_values values) known
known_after (OnClose id) known = with_text (number_of id) [] known
known_after other known = known

-- what is known after a notice for which memory is refused: nothing is added
abbrev pub known_still : Notice → SpanTexts → SpanTexts
known_still (OnClose id) known = with_text (number_of id) [] known
known_still other known = known

-- the values that a notice adds
abbrev pub added_text : Notice → List ℕ
added_text (OnNewSpan attrs id) = fields_text (values_of attrs)
added_text (OnRecord id values) = fields_text (recorded_values values)
added_text other = []

-- the values that a notice gives this span
abbrev pub given_text : ℕ → Notice → List ℕ
given_text x (OnNewSpan attrs id) =
    if number_of id == x then fields_text (values_of attrs) else []
given_text x (OnRecord id values) =
    if number_of id == x then fields_text (recorded_values values) else []
given_text x other = []

-- a notice isn't the close of this span
abbrev pub Spares : ℕ → Notice → Type 0
Spares x (OnClose id) = number_of id ≢ x
Spares x other = ⊤

-- the texts that a `Known` has of spans
abbrev pub known_in : Known → SpanTexts
known_in k n = option_map_or string_bytes (tree.get nat_cmp k.texts n) []
