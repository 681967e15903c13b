-- What stands between the quotes of a tree's line.
use Rattle.std.proofs.Common.{◌≡◌, ◌∙◌, ℕ, false, List, [], ◌∷◌, ◌++◌, Option, Some, None, IfSome, ap, refl, sym}
use Rattle.std.specs.Prelude.{codes}
use Rattle.std.specs.Borrow.{Bor}
use Rattle.std.specs.Option.{option_map_or}
use Rattle.span_core.specs.Event.{event_metadata, event_values}
use Rattle.span_core.specs.Level.{level_text}
use Rattle.span_core.specs.Metadata.{level_of}
use Rattle.span_core.specs.Span.{number_of, recorded_values, values_of}
use Rattle.span_core.specs.declared.field.FieldValue.{FieldValue}
use Rattle.span_core.specs.declared.metadata.Metadata.{Metadata}
use Rattle.span_registry.specs.Behaviour.{Notice, OnClose, OnEnter, OnEvent, OnExit, OnFollows, OnIdChange, OnNewSpan, OnRecord}
use Rattle.span_registry.specs.View.{View, metadata_shown}
use Rattle.span_fmt.proofs.Between.{Tells, has_none, has_quote, level_bare, same_texts, tells_both, tells_lane, tells_more, tells_nothing, tells_rest}
use Rattle.span_fmt.proofs.Between.{tells_then, told_between}
use Rattle.span_fmt.specs.Between.{AreBare, IsBareSite, Outside, between, texts_in}
use Rattle.span_fmt.specs.Lane.{Naming, lane_text, name_told}
use Rattle.span_fmt.specs.Text.{head_text, indent, rest_text, tail_text}
use Rattle.span_fmt.specs.Tree.{notice_text, spans_above, spans_round}
use Rattle.span_fmt.specs.TreeBetween.{IsBareNotice, TreesTellTheirTexts, line_texts, notice_texts}

indent_bare : {A : Type 0} (spans : List A) → has_quote (indent spans) ≡ false
indent_bare [] = refl
indent_bare (x ∷ spans) = indent_bare spans

tells_head : {A : Type 0} (names : Naming) (lane : ℕ) (spans : List A) → Tells (head_text names lane spans) (name_told (names lane))
tells_head names lane spans =
    let start = lane_text names lane in
    let told = name_told (names lane) in
    tells_then (start ++ codes " ") (indent spans) told (tells_then start (codes " ") told (tells_lane names lane) refl) (indent_bare spans)

abbrev Fields : Type 0
Fields = List (Bor (List ℕ) × FieldValue)

tells_tail : (mark : List ℕ) (m : Metadata) (values : Fields) → has_quote mark ≡ false → IsBareSite m → AreBare values
    → Tells (tail_text mark m values) (texts_in values)
tells_tail mark m values bare site fields =
    let level = level_text (level_of m) in
    tells_more (mark ++ codes " " ++ level ++ codes " ") (rest_text m values) (texts_in values)
    (has_none (mark ++ codes " " ++ level) (codes " ")
    (has_none (mark ++ codes " ") level (has_none mark (codes " ") bare refl) (level_bare (level_of m))) refl)
    (tells_rest m values site fields)

-- the line of a span, where it is shown
tells_shown : (head mark : List ℕ) (name : List (List ℕ)) (values : Fields) → Tells head name → has_quote mark ≡ false → AreBare values
    → (o : Option Metadata) → IfSome o (λ m. IsBareSite m)
    → Tells (option_map_or (λ m. head ++ tail_text mark m values) o []) (option_map_or (λ m. name ++ texts_in values) o [])
tells_shown head mark name values h bare fields None site = tells_nothing
tells_shown head mark name values h bare fields (Some m) site =
    tells_both head (tail_text mark m values) name (texts_in values) h (tells_tail mark m values bare site fields)

tells_span : (names : Naming) (mark : List ℕ) (x : ℕ) (values : Fields) (v : View) → has_quote mark ≡ false → AreBare values
    → IfSome (metadata_shown x v) (λ m. IsBareSite m)
    → Tells (option_map_or (λ m. head_text names v.lane (spans_above x v) ++ tail_text mark m values) (metadata_shown x v) [])
    (option_map_or (λ m. line_texts names values v) (metadata_shown x v) [])
tells_span names mark x values v bare fields site =
    tells_shown (head_text names v.lane (spans_above x v)) mark (name_told (names v.lane)) values
    (tells_head names v.lane (spans_above x v)) bare fields (metadata_shown x v) site

tells_notice : (names : Naming) (e : Notice) (v : View) → IsBareNotice e v → Tells (notice_text names e v) (notice_texts names e v)
tells_notice names (OnNewSpan attrs id) v is = tells_span names (codes ">") (number_of id) (values_of attrs) v refl is.fields is.site
tells_notice names (OnRecord id values) v is = tells_span names (codes "~") (number_of id) (recorded_values values) v refl is.fields is.site
tells_notice names (OnClose id) v is = tells_span names (codes "<") (number_of id) [] v refl is.fields is.site
tells_notice names (OnEvent e) v is =
    tells_both (head_text names v.lane (spans_round e v)) (tail_text (codes "-") (event_metadata e) (event_values e))
    (name_told (names v.lane)) (texts_in (event_values e))
    (tells_head names v.lane (spans_round e v)) (tells_tail (codes "-") (event_metadata e) (event_values e) refl is.0 is.1)
tells_notice names (OnFollows id other) v is = tells_nothing
tells_notice names (OnEnter id) v is = tells_nothing
tells_notice names (OnExit id) v is = tells_nothing
tells_notice names (OnIdChange id other) v is = tells_nothing

pub trees_tell : TreesTellTheirTexts
trees_tell = record {
  told = λ names e v is. told_between (notice_text names e v) (notice_texts names e v) (tells_notice names e v is);
  same = λ names other e f v w is are u x same. same_texts (notice_texts names e v) (notice_texts other f w) u x
      (sym (told_between (notice_text names e v) (notice_texts names e v) (tells_notice names e v is)) ∙ ap (between Outside) same
      ∙ told_between (notice_text other f w) (notice_texts other f w) (tells_notice other f w are));
}
