-- What stands between the quotes of a line: the texts that it tells, and nothing else.
use Rattle.std.specs.Prelude.{◌≡◌, ◌==◌, if◌then◌else◌, ℕ, ⊤, false, List, [], ◌∷◌, ◌++◌, codes, flat_map, reverse}
use Rattle.std.specs.Borrow.{Bor}
use Rattle.std.specs.FinMap.{get}
use Rattle.std.specs.List.{AllByRecursion, list_any}
use Rattle.std.specs.Option.{option_map_or}
use Rattle.std.specs.Str.{IsUtf8, chars}
use Rattle.span_core.specs.Event.{event_metadata, event_values}
use Rattle.span_core.specs.Field.{float_text, present}
use Rattle.span_core.specs.Metadata.{name_of, target_of}
use Rattle.span_core.specs.declared.event.Event.{Event}
use Rattle.span_core.specs.declared.field.FieldValue.{FieldValue}
use Rattle.span_core.specs.declared.field.FieldValue.TheVariants as value
use Rattle.span_core.specs.declared.metadata.Metadata.{Metadata}
use Rattle.span_fmt.specs.Lane.{Naming, name_told}
use Rattle.span_fmt.specs.Lines.{event_line}
use Rattle.span_fmt.specs.Quote.{inside_quotes}
use Rattle.span_fmt.specs.Text.{fields_text}
use Rattle.span_fmt.specs.Tree.{spans_round}
use Rattle.span_registry.specs.View.{View}

-- who reads a line stands outside its quotes, inside them, or there behind a backslash
pub data Place : Type 0 where
  Outside : Place
  Inside : Place
  Guarded : Place

-- where that is behind a byte
abbrev pub next_place : Place → ℕ → Place
next_place Outside b = if b == 34 then Inside else Outside
next_place Inside b = if b == 34 then Outside else (if b == 92 then Guarded else Inside)
next_place Guarded b = Inside

-- a byte that is read inside quotes; the quote that ends them counts as inside
abbrev pub inner : Place → ℕ → List ℕ
inner Outside b = []
inner Inside b = b ∷ []
inner Guarded b = b ∷ []

-- what is read inside the quotes of a text from this place on, each time with the quote behind it
abbrev pub between : Place → List ℕ → List ℕ
between place [] = []
between place (b ∷ bytes) = inner place b ++ between (next_place place b) bytes

-- texts as they stand inside quotes, each with the quote behind it
abbrev pub quoted_one_by_one : List (List ℕ) → List ℕ
quoted_one_by_one texts = flat_map (λ t. inside_quotes t ++ codes "\"") texts

-- the text that a value is, if it is one
abbrev pub text_in : FieldValue → List (List ℕ)
text_in (value.Text t) = t.now ∷ []
text_in other = []

-- the texts among these values
abbrev pub texts_in : List (Bor (List ℕ) × FieldValue) → List (List ℕ)
texts_in values = flat_map (λ f. text_in f.1) (present values)

-- the values that spans were given, by the spans' numbers
abbrev pub SpanValues : Type 0
SpanValues = ℕ → List (Bor (List ℕ) × FieldValue)

-- the texts that a line of `Lines` tells: the name of its lane, if it has one, those of the spans
-- round its event from the root on, and those of the event
abbrev pub texts_told : Naming → Event → View → SpanValues → List (List ℕ)
texts_told names e v given =
    name_told (names v.lane) ++ flat_map (λ x. texts_in (given x)) (reverse (spans_round e v))
    ++ texts_in (event_values e)

-- a name has no quote
abbrev pub IsBare : List ℕ → Type 0
IsBare name = list_any (λ c. c == 34) (chars name) ≡ false

-- a float's text has none; numbers and truth values have none anyway
abbrev pub IsBareFloat : FieldValue → Type 0
IsBareFloat (value.F64 f) = list_any (λ b. b == 34) (float_text f) ≡ false
IsBareFloat other = ⊤

-- the fields among these that have a value have no quote in their names
abbrev pub AreBare : List (Bor (List ℕ) × FieldValue) → Type 0
AreBare values = AllByRecursion (λ f. IsBare f.0.now × IsBareFloat f.1) (present values)

-- a callsite has no quote in its names
pub record IsBareSite (m : Metadata) : Type 0 where
  pub target : IsBare (target_of m)
  pub name : IsBare (name_of m)

-- a program has no quote in its own names: of an event, and of the spans that there are
pub record IsBareEvent (e : Event) (v : View) (given : SpanValues) : Type 0 where
  pub site : IsBareSite (event_metadata e)
  pub fields : AreBare (event_values e)
  pub spans : (x : ℕ) → IsBare (option_map_or (λ s. name_of s.metadata) (get v.spans x) [])
  pub values : (x : ℕ) → AreBare (given x)

-- the line of `Lines` for an event, where spans were given these values
abbrev pub line_of : Naming → Event → View → SpanValues → List ℕ
line_of names e v given = event_line names e v (λ x. fields_text (given x))

-- between the quotes of a line stand the texts that it tells, in order, and nothing else; so two
-- lines that are the same tell the same texts
pub record LinesTellTheirTexts : Type 0 where
  pub told : (names : Naming) (e : Event) (v : View) (given : SpanValues) → IsBareEvent e v given
      → between Outside (line_of names e v given) ≡ quoted_one_by_one (texts_told names e v given)
  pub same : (names other : Naming) (e f : Event) (v w : View) (given others : SpanValues)
      → IsBareEvent e v given → IsBareEvent f w others
      → AllByRecursion IsUtf8 (texts_told names e v given)
      → AllByRecursion IsUtf8 (texts_told other f w others)
      → line_of names e v given ≡ line_of other f w others
      → texts_told names e v given ≡ texts_told other f w others
