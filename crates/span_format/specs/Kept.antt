-- The fields of open spans, as text.
use Rattle.std.specs.Prelude.{ℕ, List, [], ◌++◌, string_bytes}
use Rattle.std.specs.BTreeMap as tree
use Rattle.std.specs.Borrow.{Bor}
use Rattle.std.specs.Option.{option_map_or}
use Rattle.std.specs.Ordering.{nat_cmp}
use Rattle.span_core.specs.Span.{number_of, recorded_values, values_of}
use Rattle.span_core.specs.declared.field.FieldValue.{FieldValue}
use Rattle.span_fmt.specs.Known.{SpanTexts, with_text}
use Rattle.span_format.specs.Field.{fields_text}
use Rattle.span_format.specs.declared.kept.Kept.{Kept}
use Rattle.span_format.specs.declared.layout.Layout.{Layout}
use Rattle.span_registry.specs.Behaviour.{Notice, OnClose, OnNewSpan, OnRecord}

-- what is kept once a span is given these fields too
abbrev pub with_values : Layout → ℕ → List (Bor (List ℕ) × FieldValue) → SpanTexts → SpanTexts
with_values how x values kept = with_text x (kept x ++ fields_text how values) kept

-- what is kept after a notice: a new span and a record add fields, and a close takes the span's out
abbrev pub kept_after : Layout → Notice → SpanTexts → SpanTexts
kept_after how (OnNewSpan attrs id) kept = with_values how (number_of id) (values_of attrs) kept
kept_after how (OnRecord id values) kept = with_values how (number_of id) (recorded_values values) kept
kept_after how (OnClose id) kept = with_text (number_of id) [] kept
kept_after how other kept = kept

-- the text of the fields that a notice gives a span
abbrev pub added_text : Layout → Notice → List ℕ
added_text how (OnNewSpan attrs id) = fields_text how (values_of attrs)
added_text how (OnRecord id values) = fields_text how (recorded_values values)
added_text how other = []

-- the texts that a `Kept` has of spans
abbrev pub kept_in : Kept → SpanTexts
kept_in k n = option_map_or string_bytes (tree.get nat_cmp k.texts n) []
