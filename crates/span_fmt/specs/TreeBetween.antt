-- What stands between the quotes of a tree's line: the texts that it tells, and nothing else.
use Rattle.std.specs.Prelude.{◌≡◌, ℕ, ⊤, List, [], ◌++◌, IfSome}
use Rattle.std.specs.Borrow.{Bor}
use Rattle.std.specs.List.{AllByRecursion}
use Rattle.std.specs.Option.{option_map_or}
use Rattle.std.specs.Str.{IsUtf8}
use Rattle.span_core.specs.Event.{event_metadata, event_values}
use Rattle.span_core.specs.Span.{number_of, recorded_values, values_of}
use Rattle.span_core.specs.declared.field.FieldValue.{FieldValue}
use Rattle.span_fmt.specs.Between.{AreBare, IsBareSite, Outside, between, quoted_one_by_one, texts_in}
use Rattle.span_fmt.specs.Lane.{Naming, name_told}
use Rattle.span_fmt.specs.Tree.{notice_text}
use Rattle.span_registry.specs.Behaviour.{Notice, OnClose, OnEvent, OnNewSpan, OnRecord}
use Rattle.span_registry.specs.View.{View, metadata_shown}

-- the texts that a line with these values tells: the name of its lane, if it has one, and those
-- among the values
abbrev pub line_texts : Naming → List (Bor (List ℕ) × FieldValue) → View → List (List ℕ)
line_texts names values v = name_told (names v.lane) ++ texts_in values

-- the texts that the line of a span with these values tells, where a view shows the span
abbrev pub span_texts : Naming → ℕ → List (Bor (List ℕ) × FieldValue) → View → List (List ℕ)
span_texts names x values v =
    option_map_or (λ m. line_texts names values v) (metadata_shown x v) []

-- the texts that a tree's line of a notice tells
abbrev pub notice_texts : Naming → Notice → View → List (List ℕ)
notice_texts names (OnNewSpan attrs id) v = span_texts names (number_of id) (values_of attrs) v
notice_texts names (OnRecord id values) v =
    span_texts names (number_of id) (recorded_values values) v
notice_texts names (OnClose id) v = span_texts names (number_of id) [] v
notice_texts names (OnEvent e) v = line_texts names (event_values e) v
notice_texts names other v = []

-- no quote stands in a span's name and target, where a view shows it, nor in names of these fields
pub record IsBareSpan (x : ℕ) (values : List (Bor (List ℕ) × FieldValue)) (v : View) : Type 0 where
  pub site : IfSome (metadata_shown x v) (λ m. IsBareSite m)
  pub fields : AreBare values

-- no quote stands in the names and targets that a tree's line of a notice shows
abbrev pub IsBareNotice : Notice → View → Type 0
IsBareNotice (OnNewSpan attrs id) v = IsBareSpan (number_of id) (values_of attrs) v
IsBareNotice (OnRecord id values) v = IsBareSpan (number_of id) (recorded_values values) v
IsBareNotice (OnClose id) v = IsBareSpan (number_of id) [] v
IsBareNotice (OnEvent e) v = IsBareSite (event_metadata e) × AreBare (event_values e)
IsBareNotice other v = ⊤

-- between the quotes of a tree's line stand the texts that it tells, in order, and nothing else; so
-- two lines that are the same tell the same texts
pub record TreesTellTheirTexts : Type 0 where
  pub told : (names : Naming) (e : Notice) (v : View) → IsBareNotice e v
      → between Outside (notice_text names e v) ≡ quoted_one_by_one (notice_texts names e v)
  pub same : (names other : Naming) (e f : Notice) (v w : View)
      → IsBareNotice e v → IsBareNotice f w
      → AllByRecursion IsUtf8 (notice_texts names e v)
      → AllByRecursion IsUtf8 (notice_texts other f w)
      → notice_text names e v ≡ notice_text other f w
      → notice_texts names e v ≡ notice_texts other f w
