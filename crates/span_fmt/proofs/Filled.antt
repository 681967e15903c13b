-- A line is never empty.
use Rattle.std.proofs.Common.{◌≡◌, ◌≢◌, ℕ, List, [], ◌∷◌, ◌++◌, Option, Some, Result, Ok, Err, ap, refl, sym, ◌∙◌}
use Rattle.std.specs.Borrow.{Bor}
use Rattle.std.specs.Option.{option_map_or}
use Rattle.std.specs.Prelude.{IfErr, OnErr, codes}
use Rattle.span_core.specs.declared.event.Event.{Event}
use Rattle.span_core.specs.Event.{event_metadata, event_values}
use Rattle.span_core.specs.declared.field.FieldValue.{FieldValue}
use Rattle.span_core.specs.declared.metadata.Metadata.{Metadata}
use Rattle.span_registry.specs.View.{View, metadata_shown}
use Rattle.span_core.specs.Level.{level_text}
use Rattle.span_core.specs.Metadata.{level_of}
use Rattle.span_fmt.specs.Known.{SpanTexts}
use Rattle.span_fmt.specs.Lane.{Naming, lane_text}
use Rattle.span_fmt.specs.Lines.{around_text, begun_text, event_line, spaced}
use Rattle.span_fmt.specs.Text.{head_text, indent, rest_text, tail_text}
use Rattle.span_fmt.specs.Tree.{event_text, span_text, spans_above, spans_round}

not_empty : (x : ℕ) (xs : List ℕ) → (x ∷ xs) ≢ []
not_empty x xs e = cc

behind : (front more : List ℕ) → more ≢ [] → (front ++ more) ≢ []
behind [] more filled e = filled e
behind (y ∷ ys) more filled e = not_empty y (ys ++ more) e

longer : (front more : List ℕ) → front ≢ [] → (front ++ more) ≢ []
longer [] more filled e = filled refl
longer (y ∷ ys) more filled e = not_empty y (ys ++ more) e

-- nor is what it begins with
begun : {A : Type 0} (names : Naming) (lane : ℕ) (spans : List A) (more : List ℕ) → (head_text names lane spans ++ more) ≢ []
begun names lane spans more =
    let start = lane_text names lane in
    longer (head_text names lane spans) more (longer (start ++ codes " ") (indent spans) (behind start (codes " ") (not_empty 32 [])))

-- what holds without an error holds at each
pub at_an_error : {T E P : Type 0} (r : Result T E) → P → IfErr r (λ e. P)
at_an_error (Ok v) p = tt
at_an_error (Err e) p = p

-- what holds anyway holds where memory is refused
pub without_error : {T E P : Type 0} (r : Result T E) → P → OnErr r P
without_error (Ok v) p = tt
without_error (Err e) p = p

-- the line of an event
pub event_line_filled : (names : Naming) (e : Event) (v : View) → event_text names e v ≢ []
event_line_filled names e v = begun names v.lane (spans_round e v) (tail_text (codes "-") (event_metadata e) (event_values e))

-- the line of a span that is shown
pub span_line_filled : (names : Naming) (mark : List ℕ) (x : ℕ) (values : List (Bor (List ℕ) × FieldValue)) (v : View) (m : Metadata)
    → metadata_shown x v ≡ Some m → span_text names mark x values v ≢ []
span_line_filled names mark x values v m e none =
    begun names v.lane (spans_above x v) (tail_text mark m values)
    (sym (ap (λ (o : Option Metadata). option_map_or (λ m. head_text names v.lane (spans_above x v) ++ tail_text mark m values) o []) e) ∙ none)

-- the line of an event as `Lines` has it
pub line_filled : (names : Naming) (e : Event) (v : View) (known : SpanTexts) → event_line names e v known ≢ []
line_filled names e v known =
    let level = level_of (event_metadata e) in
    let start = behind (lane_text names v.lane ++ codes " " ++ level_text level) (codes " ") (not_empty 32 []) in
    let around = spaced (around_text e v known) in
    longer (begun_text names v.lane level ++ around) (rest_text (event_metadata e) (event_values e)) (longer (begun_text names v.lane level) around start)
